-- Laws.
pub mod Tables
