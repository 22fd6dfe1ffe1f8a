-- What the contracts of the code cite.
pub mod Walking
pub mod WellFormed
