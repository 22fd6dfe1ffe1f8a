pub mod Theory
