pub mod Fit
pub mod Frame
pub mod Margin
