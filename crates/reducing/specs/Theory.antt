-- The laws of matching and of runs.
pub mod Walks
pub mod Rules
