-- Defines the regions that the region variables of a signature have at a call.
pub mod Instances
pub mod Fitting
-- Defines the requirements of the typing rules on a call, and the values that a call passes.
pub mod Calls
pub mod Passing
pub mod Plain
