-- Laws that the proofs of the functions share.
pub mod Bits
pub mod Follow
pub mod Occurrence
pub mod Rows
pub mod Within
