-- Laws.
pub mod Proper
pub mod Rows
pub mod Kept
pub mod Front
pub mod Walks
