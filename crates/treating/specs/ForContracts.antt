-- What the contracts of the code cite.
pub mod Children
pub mod Choices
pub mod Splitting
pub mod Treatment
