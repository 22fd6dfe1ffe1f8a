-- Laws that the proofs of the functions share.
pub mod RunLaws
pub mod JudgementLaws
pub mod TaskLaws
