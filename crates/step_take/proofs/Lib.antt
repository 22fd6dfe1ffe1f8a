-- Laws that the proofs of the functions share.
pub mod StepLaws
pub mod LogLaws
pub mod Left
pub mod Counted
pub mod Written
pub mod Putting
pub mod Result
pub mod Placing
