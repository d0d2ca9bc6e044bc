-- What the program holds, and its laws.
pub mod Held
