pub mod Asked
pub mod Buffer
pub mod Outcome
pub mod Theory
