-- What the contracts of the code cite.
pub mod Room
pub mod Line
