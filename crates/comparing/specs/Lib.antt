pub mod Theory
pub mod ForContracts
