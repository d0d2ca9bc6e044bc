-- Tests on Booleans, and lists: definitions that the library lacks, and their laws.
pub mod Tests
pub mod Lists
pub mod Members
pub mod Order
pub mod Lex
pub mod Merge
pub mod Firsts
pub mod Count
pub mod Sets
pub mod Parts
