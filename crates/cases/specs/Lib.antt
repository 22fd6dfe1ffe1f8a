pub mod Cases
pub mod Checked
