-- What the contracts of the code cite.
pub mod Layout
pub mod Rebind
pub mod Resting
pub mod Room
