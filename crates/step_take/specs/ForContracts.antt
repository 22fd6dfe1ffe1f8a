-- What the contracts of the code cite.
pub mod Stepping
pub mod Replacing
