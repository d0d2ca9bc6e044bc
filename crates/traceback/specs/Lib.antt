-- What the contracts of the reads cite, and its laws.
pub mod Table
pub mod Ranks
pub mod Ranking
pub mod Trail
pub mod Along
pub mod Chain
pub mod Walk
pub mod Traced
pub mod Write
pub mod Right
pub mod Answers
pub mod Best
