-- What the contracts of the code cite.
pub mod Read
pub mod Seek
pub mod Symbols
pub mod Loading
