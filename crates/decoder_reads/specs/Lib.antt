-- The reads of a decoder but the reading list.
pub mod Reads
