pub mod Pushes
pub mod Expand
pub mod Measure
pub mod Drain
pub mod Once
pub mod Pass
