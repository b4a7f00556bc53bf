-- The definitions that the contract of `allocate` depends on.
pub mod Bars
pub mod Liveness
pub mod Interference
pub mod Idle
pub mod Fills
-- The contracts of the functions inside the register allocator's crate.
pub mod Masks
pub mod LivenessTable
pub mod IdlePlaces
pub mod FillPlaces
pub mod Sharing
