pub mod Alike
pub mod Held
pub mod Says
