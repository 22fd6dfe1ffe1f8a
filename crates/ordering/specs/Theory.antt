-- The laws of the ordering.
pub mod Clause
pub mod Decide
pub mod Descent
pub mod Total
pub mod Verdict
pub mod Question
pub mod Literal
pub mod Examples
