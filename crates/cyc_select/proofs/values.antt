-- the values in registers after the lines that compute operands, plans (sequences of machine operations) and tests
pub mod Blocks
pub mod Operations
pub mod Halves
pub mod Plans
pub mod Computing
pub mod Reaching
pub mod Found
