-- Laws of this crate's proofs.
pub mod Wayside
pub mod Marking
pub mod Filled
