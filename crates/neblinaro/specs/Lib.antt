pub mod Theory
pub mod Demands
pub mod ForContracts
