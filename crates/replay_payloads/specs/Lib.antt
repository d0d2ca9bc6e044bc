-- Payloads, and what is lent for them.
pub mod Payloads
pub mod Lent
