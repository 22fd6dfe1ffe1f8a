pub mod Limits
pub mod Walks
