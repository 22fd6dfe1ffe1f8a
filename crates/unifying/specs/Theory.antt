-- Laws.
pub mod Unify
pub mod Same
pub mod Links
