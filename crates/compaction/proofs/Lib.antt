-- Laws of this crate's proofs.
pub mod Marking
pub mod Moves
pub mod Slides
pub mod Stays
pub mod Compacting
pub mod Exact
