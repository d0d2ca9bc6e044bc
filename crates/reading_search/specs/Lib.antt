-- What an answer of the search means.
pub mod Found
