-- What the program holds between the decoder's calls.
pub mod Held
pub mod Graphs
