-- The theorems about the calls' outcomes.
pub mod Filling
pub mod Walks
pub mod Determined
pub mod Runs
pub mod Directed
pub mod Tables
pub mod Judges
pub mod Always
pub mod Verdicts
pub mod Termination
pub mod Met
