-- Laws that the proofs of the functions share.
pub mod FillingLaws
pub mod RunTermLaws
