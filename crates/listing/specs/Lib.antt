-- What the contracts of the reading list cite, and its laws.
pub mod Listed
pub mod Rooms
pub mod Copies
pub mod Settling
pub mod Counting
pub mod Keeping
pub mod Owning
pub mod Joining
pub mod Listing
pub mod Finding
pub mod Counts
pub mod Alone
pub mod Answer
