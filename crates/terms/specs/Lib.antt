pub mod Term
pub mod Position
pub mod Equation
pub mod Prefix
pub mod Filling
pub mod Theory
pub mod ForContracts
