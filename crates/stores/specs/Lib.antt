-- What the lent stores stand for.
pub mod Shown
pub mod Grown
pub mod Tables
pub mod Rep
pub mod Roots
pub mod Moved
pub mod Lent
