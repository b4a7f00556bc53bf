-- the definitions in which the contract of `assemble` is stated and proved
pub mod Text
pub mod Machine
pub mod Slots
pub mod Order
pub mod Layout
-- the contracts between the functions of this crate
pub mod Words
