-- The compaction of the record store: which records are live, what moving them down leaves, and how many there are then.
pub mod Marks
pub mod Slide
pub mod Numbers
pub mod Count
pub mod Carried
