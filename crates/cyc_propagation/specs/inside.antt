-- the definitions in which the contract of `simplify` is stated and proved
pub mod Simplified
-- the contracts of the functions of this crate
pub mod Facts
pub mod Copies
pub mod Replacement
pub mod Table
pub mod Entries
pub mod Pins
pub mod Room
pub mod Tail
