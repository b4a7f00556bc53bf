-- every program that the front end accepts can be lowered
pub mod GlobalConstants
pub mod LowerableLemmas
pub mod Accepted
