-- Laws of this crate's proofs.
pub mod Ends
pub mod Words
pub mod Searching
