-- What the contract of the reading list cites, and its laws.
pub mod Outputs
pub mod Right
pub mod Items
pub mod Lines
pub mod Sizes
pub mod Fronts
pub mod Back
pub mod Totals
pub mod Writing
pub mod Behind
pub mod Groups
pub mod Answers
pub mod Whole
pub mod Scratch
