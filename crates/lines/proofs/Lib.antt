pub mod Sizes
pub mod Removing
pub mod Writing
