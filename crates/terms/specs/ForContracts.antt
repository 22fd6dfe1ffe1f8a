-- What the contracts of the code cite.
pub mod Arguments
pub mod Sizes
pub mod Fits
pub mod Limits
pub mod Stored
