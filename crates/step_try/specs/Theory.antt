-- Laws.
pub mod Testable
pub mod Front
pub mod Parts
