-- Laws.
pub mod Between
pub mod Listed
pub mod Arities
pub mod Status
