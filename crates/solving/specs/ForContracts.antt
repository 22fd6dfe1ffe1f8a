-- What the contracts of the code cite.
pub mod Seen
pub mod Bindings
pub mod Unified
pub mod Within
pub mod Written
pub mod Told
