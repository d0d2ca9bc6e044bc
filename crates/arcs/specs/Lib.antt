pub mod Part
pub mod Queue
pub mod Passed
pub mod Ended
pub mod Finish
pub mod Whole
pub mod All
pub mod State
