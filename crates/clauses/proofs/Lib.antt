pub mod Clauses
pub mod Keeping
pub mod Members
