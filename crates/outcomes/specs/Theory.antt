-- Laws.
pub mod Number
pub mod Outcomes
pub mod Fill
