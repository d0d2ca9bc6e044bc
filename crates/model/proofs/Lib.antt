pub mod Came
pub mod Checked
pub mod Accepted
pub mod Search
