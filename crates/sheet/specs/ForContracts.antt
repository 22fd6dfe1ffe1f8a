-- What the contracts of the code cite.
pub mod Valid
pub mod Bytes
pub mod Frames
