-- What the contracts of the code cite.
pub mod Unifier
pub mod Unify
pub mod Links
