-- What the contracts of the ranking cite, and its laws.
pub mod Keys
pub mod Listed
pub mod Ranked
pub mod Listing
pub mod Ranking
