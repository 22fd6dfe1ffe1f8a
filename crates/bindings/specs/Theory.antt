-- Laws.
pub mod PrefixForm
pub mod Bindings
pub mod Equation
pub mod Sets
