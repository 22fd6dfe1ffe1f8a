pub mod Line
pub mod Walk
pub mod Turns
pub mod Always
pub mod Holds
pub mod Judge
pub mod Theory
pub mod ForContracts
