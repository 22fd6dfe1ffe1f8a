-- Laws.
pub mod Holding
