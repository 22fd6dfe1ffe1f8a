pub mod LongEnough
pub mod RefusedEarly
