-- What the contracts of the code cite.
pub mod Searching
pub mod Next
