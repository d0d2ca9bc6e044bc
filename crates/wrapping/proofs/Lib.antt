-- Laws of this crate's proofs.
pub mod Halves
