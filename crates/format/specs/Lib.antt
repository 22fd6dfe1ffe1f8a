pub mod Limits
pub mod Refusal
pub mod Byte
pub mod Lists
pub mod Buffer
pub mod Theory
pub mod Kind
