-- What calls leave of the decoder.
pub mod Held
