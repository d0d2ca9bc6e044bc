-- Laws of this crate's proofs.
pub mod Steps
pub mod Table
pub mod Same
