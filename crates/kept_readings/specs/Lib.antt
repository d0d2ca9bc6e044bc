-- What the contracts of the kept readings cite, and their laws.
pub mod Kept
pub mod Adding
pub mod Laws
pub mod Heads
pub mod Steps
pub mod Bests
pub mod Meaning
pub mod Whole
pub mod Model
pub mod Asks
