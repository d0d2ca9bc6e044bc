-- What the contracts of `get_cutoff` and of its parts cite.
pub mod Costs
pub mod Selected
