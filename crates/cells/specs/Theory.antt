-- Laws.
pub mod Nodes
pub mod Cells
pub mod Stored
pub mod Resolved
pub mod Passed
