pub mod Walk
pub mod Run
pub mod Theory
