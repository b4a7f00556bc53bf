-- the definitions on which the type `Plain` and its invariant depend
pub mod Requests
pub mod Program
pub mod Uses
pub mod WellFormed
-- the meaning of a plain program as a transition system
pub mod Operators
pub mod State
pub mod Memory
pub mod Step
pub mod Straight
pub mod Uniform
