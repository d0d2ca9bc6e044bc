pub mod Arrival
pub mod PutOn
pub mod Winner
pub mod Settled
pub mod Settles
pub mod Room
pub mod Stood
pub mod Arrives
