pub mod Arguments
pub mod ChoiceLines
pub mod Exceeding
pub mod Lexicographic
pub mod Marked
pub mod Splitting
pub mod Treatment
