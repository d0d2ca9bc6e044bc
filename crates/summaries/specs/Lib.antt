-- What the records' histories come to, record by record.
pub mod Summed
pub mod Key
pub mod Laws
