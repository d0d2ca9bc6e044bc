-- What the lent memory stands for, what every answer says, and what the parts of the calls do.
pub mod State
pub mod Answers
pub mod Parts
