-- Laws that the proofs of the functions share.
pub mod FrontLaws
pub mod TryLaws
pub mod MatchLaws
