-- Laws of this crate's proofs.
pub mod Bits
pub mod Marks
pub mod Stores
pub mod Blocks
