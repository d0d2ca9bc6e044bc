-- How many entries and kept readings the lent slices hold.
pub mod Places
