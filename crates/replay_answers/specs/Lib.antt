-- What the functions that write answers ask of one another.
pub mod Ends
