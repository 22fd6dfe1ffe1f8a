-- What the contracts of the code cite.
pub mod Trimmed
pub mod Holding
