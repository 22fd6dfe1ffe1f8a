-- The laws of the memory of a comparison.
pub mod Weight
pub mod Rows
pub mod Symbols
pub mod Resolves
