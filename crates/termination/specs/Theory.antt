-- Why the walk without limits, reductions and the run without limits end.
pub mod Weight
pub mod Turns
pub mod Unbound
pub mod Lower
pub mod Reduction
pub mod Runs
