-- Scripts and answers as words: what the contracts cite.
pub mod Words
pub mod Records
