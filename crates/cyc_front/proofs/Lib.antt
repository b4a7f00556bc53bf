-- the contract of the front end follows from the contracts of its phases
pub mod Fronts
