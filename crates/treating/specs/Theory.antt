-- Laws.
pub mod Choices
pub mod Treatment
