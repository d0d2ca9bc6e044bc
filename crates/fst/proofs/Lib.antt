-- Laws of this crate's proofs.
pub mod Walk
pub mod Labels
pub mod Weights
pub mod Offsets
pub mod Arcs
pub mod States
pub mod Whole
pub mod Epsilons
