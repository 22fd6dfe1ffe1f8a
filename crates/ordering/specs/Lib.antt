pub mod Clause
pub mod Theory
pub mod Verdict
pub mod Decision
