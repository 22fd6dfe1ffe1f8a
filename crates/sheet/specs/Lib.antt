pub mod Text
pub mod Sheet
pub mod Frame
pub mod Reading
pub mod Theory
pub mod ForContracts
