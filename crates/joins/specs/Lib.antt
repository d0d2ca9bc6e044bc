-- What is worth keeping of a loser, and the join that keeps it.
pub mod Worth
pub mod Fresh
pub mod Paths
pub mod Walk
pub mod Keep
pub mod Model
