-- What the code of the comparison with its clause cites.
pub mod Clauses
pub mod Kept
pub mod Among
