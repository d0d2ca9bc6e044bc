-- The record store, and what it stands for.
pub mod History
pub mod Layout
pub mod Stands
pub mod Shape
pub mod Writes
pub mod Puts
