-- What the contracts of the code cite.
pub mod PrefixForm
pub mod Bindings
pub mod Count
pub mod Equation
pub mod Sets
