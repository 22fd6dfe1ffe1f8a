-- What the contracts of the code cite.
pub mod Equation
pub mod Reports
pub mod Decides
