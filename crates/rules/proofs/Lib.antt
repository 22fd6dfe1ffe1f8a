-- Laws that the proofs of the functions share.
pub mod RowLaws
pub mod KeepLaws
pub mod StoreLaws
pub mod WalkLaws
