-- Laws that the proofs of the functions share.
pub mod Answer
pub mod Lengths
pub mod Parts
pub mod Keeping
pub mod Terms
pub mod Slots
pub mod Pairs
pub mod Lines
