pub mod Decode
pub mod Lines
pub mod Located
pub mod Seeking
pub mod OneFrame
pub mod Arities
pub mod Placing
