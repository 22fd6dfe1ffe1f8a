-- Laws.
pub mod Lengths
