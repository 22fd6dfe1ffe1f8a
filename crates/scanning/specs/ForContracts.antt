-- What the contracts of the code cite.
pub mod Scan
pub mod Digits
pub mod Known
