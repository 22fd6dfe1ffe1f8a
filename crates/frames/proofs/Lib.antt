-- Laws that the proofs of the functions share.
pub mod Judgement
pub mod StepLaws
pub mod LineLaws
pub mod BindingLaws
pub mod ElementLaws
pub mod FrameLaws
