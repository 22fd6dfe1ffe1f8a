pub mod Uses
pub mod Theory
