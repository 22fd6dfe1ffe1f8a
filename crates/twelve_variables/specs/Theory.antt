-- A walk, a match and a listing do not depend on how many variables there could be (document 02, W9).
pub mod Padded
pub mod Few
pub mod Slots
pub mod Walk
pub mod Solve
pub mod Judge
pub mod Runs
pub mod Scan
pub mod Sheet
pub mod Frames
pub mod Examples
