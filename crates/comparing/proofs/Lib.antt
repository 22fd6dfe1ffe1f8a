pub mod Rows
pub mod Smaller
pub mod Loops
pub mod Rules
pub mod ConstantTerms
pub mod Pair
pub mod Settled
pub mod Arguments
