pub mod Look
pub mod Emit
pub mod Whole
