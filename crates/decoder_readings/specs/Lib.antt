-- The reading list of a decoder.
pub mod Listed
