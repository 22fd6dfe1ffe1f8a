-- Laws that the proofs of the functions share.
pub mod Passed
pub mod Held
