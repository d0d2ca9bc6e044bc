-- What the contracts of the reads cite, and its laws.
pub mod Paths
pub mod Right
pub mod Fronts
pub mod Back
pub mod Totals
pub mod Writing
pub mod Known
pub mod Grouping
pub mod Answers
