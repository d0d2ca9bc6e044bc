-- Laws of this crate's proofs.
pub mod Swaps
pub mod Narrow
pub mod Kth
pub mod Walk
pub mod Least
pub mod Cuts
