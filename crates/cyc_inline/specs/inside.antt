-- the properties of the inlined program that the contract of `inline` states
pub mod Inlined
-- the contracts of functions inside the crate
pub mod Opened
pub mod Sites
pub mod Emission
pub mod Changes
pub mod Emptied
