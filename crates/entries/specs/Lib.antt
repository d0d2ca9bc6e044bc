-- What the contracts of the entries cite, and their laws.
pub mod Entries
pub mod Ways
pub mod Laws
pub mod Merging
pub mod Filling
