-- What histories read.
pub mod Reading
pub mod Laws
