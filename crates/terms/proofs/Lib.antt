pub mod Added
pub mod Filled
pub mod Theory
