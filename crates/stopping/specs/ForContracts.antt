-- What the contracts of the code cite.
pub mod Empty
pub mod Ends
