-- Laws of the sheet: what an accepted text says.
pub mod Text
pub mod Scan
pub mod Frame
pub mod Accepted
pub mod Frames
pub mod Width
pub mod Lines
