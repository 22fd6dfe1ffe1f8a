-- Laws.
pub mod Steps
