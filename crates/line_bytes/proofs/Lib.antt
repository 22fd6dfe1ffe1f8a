-- Laws that the proofs of the functions share.
pub mod Rebinding
pub mod Shifting
pub mod Widening
pub mod Elements
