-- Laws.
pub mod Equation
pub mod Memory
