-- What the contracts of the order of kept readings cite, and its laws.
pub mod Before
pub mod Asks
pub mod Words
pub mod Strict
pub mod Filling
pub mod Sinking
pub mod Told
