-- What the contracts of the code cite.
pub mod Rows
pub mod Lines
pub mod Walks
