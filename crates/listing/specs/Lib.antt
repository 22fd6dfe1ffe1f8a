pub mod Listing
pub mod ForContracts
pub mod Theory
