-- Words along routes, and routes of entries.
pub mod Back
pub mod Words
pub mod Skips
pub mod Counts
pub mod Before
pub mod Written
pub mod Entries
pub mod Joins
pub mod Told
