-- What the contracts of the code cite.
pub mod Appended
pub mod Kinds
