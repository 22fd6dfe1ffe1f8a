pub mod Ground
pub mod Meeting
pub mod Row
pub mod Steps
pub mod MatchProgress
