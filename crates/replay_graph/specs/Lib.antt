-- A graph in a script: where its slices stand, what they hold, and what becomes of it.
pub mod Shapes
pub mod Slices
pub mod Tries
