-- One list of own groups and kept readings, and its laws.
pub mod Items
pub mod Steps
pub mod Bound
pub mod Twins
pub mod Drops
pub mod Left
