-- What the contracts of the code cite.
pub mod Rest
pub mod Stands
