-- What the contracts of the code cite.
pub mod Rules
pub mod Part
