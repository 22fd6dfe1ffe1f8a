-- Laws.
pub mod Lines
