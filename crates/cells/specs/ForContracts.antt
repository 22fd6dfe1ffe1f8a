-- What the contracts of the code cite.
pub mod Nodes
pub mod Cells
pub mod Passing
