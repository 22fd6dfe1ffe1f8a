-- Laws that the proofs of the functions share.
pub mod ValueLaws
pub mod JudgeLaws
