pub mod Match
pub mod Run
pub mod Test
pub mod Reduction
pub mod Theory
pub mod ForContracts
pub mod Walks
