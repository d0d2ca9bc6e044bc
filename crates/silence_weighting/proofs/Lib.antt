-- Laws of this crate's proofs.
pub mod Runs
pub mod Steps
pub mod Segments
pub mod Told
pub mod Writing
pub mod Limits
pub mod Weighs
pub mod Answered
pub mod Right
pub mod Own
