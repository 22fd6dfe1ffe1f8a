-- The laws of the walk.
pub mod Examples
pub mod Seen
pub mod Rank
pub mod Choices
pub mod Lines
pub mod Turns
pub mod Invariant
pub mod Records
pub mod Until
pub mod Judge
