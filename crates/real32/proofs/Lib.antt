pub mod Rank
pub mod Finite
