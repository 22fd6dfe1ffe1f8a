pub mod Body
pub mod Scanning
pub mod Tasks
pub mod Digits
