pub mod CompareTask
pub mod Stored
