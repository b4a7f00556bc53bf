-- the definitions in which the contract of `select` is stated and proved
pub mod Labelled
pub mod Machine
pub mod Selected
-- the contracts between the functions of this crate
pub mod Numbers
pub mod Plans
pub mod Instructions
pub mod Slots
pub mod Operands
pub mod Passing
pub mod Hoisting
pub mod Counts
pub mod Selection
pub mod Emission
