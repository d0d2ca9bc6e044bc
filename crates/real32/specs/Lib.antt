-- Laws of f32 (most of them of any binary format): the order, sums, what is not rounded, a rank, magnitudes, the least, what is finite, and laws that do not hold.
pub mod Order
pub mod Sum
pub mod Exact
pub mod Rank
pub mod Small
pub mod Least
pub mod Limits
pub mod Finite
