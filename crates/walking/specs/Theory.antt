-- Laws.
pub mod Turn
pub mod Walking
