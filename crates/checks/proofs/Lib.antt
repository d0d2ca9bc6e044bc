-- std's `min` as the lesser of two.
mod Least
