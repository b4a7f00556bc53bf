-- This module proves the steps that begin an expression, and the steps that pass a value to the newest continuation frame.
pub mod Assignments
pub mod Beginnings
pub mod Conversions
pub mod Decided
pub mod Evaluations
pub mod GlobalSteps
pub mod Landings
pub mod Operators
pub mod ValueWords
pub mod Values
