-- Laws of byte classes, of kinds of frames, of tests on lists, of bytes that are copied to the front of others, and of what stands behind them.
pub mod Byte
pub mod Lists
pub mod Kind
pub mod Front
pub mod Behind
pub mod Parts
