-- What the reads of the program ask of the decoder's stores.
pub mod Reads
