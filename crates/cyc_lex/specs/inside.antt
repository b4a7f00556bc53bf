-- These modules have the contracts between the functions of this crate.
pub mod Beginnings
pub mod Found
