pub mod Match
pub mod Variables
pub mod Step
pub mod First
pub mod Runs
pub mod Reference
pub mod Irreducible
