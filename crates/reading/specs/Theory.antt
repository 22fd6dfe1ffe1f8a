-- Laws.
pub mod Found
