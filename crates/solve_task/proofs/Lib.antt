pub mod Directed
pub mod SolveTask
pub mod AlwaysTask
