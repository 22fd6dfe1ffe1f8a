-- Laws.
pub mod Line
