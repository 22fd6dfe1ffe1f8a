pub mod Solving
pub mod Begin
pub mod Collected
pub mod Deciding
