-- Laws.
pub mod Stopping
