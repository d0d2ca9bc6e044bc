-- What the functions of the program ask of one another.
pub mod Shape
