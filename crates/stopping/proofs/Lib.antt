pub mod Looking
pub mod Stopping
