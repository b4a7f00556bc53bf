-- These modules are about faults after the front end, and the reported needs of a program.
pub mod Refusals
pub mod Needing
-- These modules compose the passes and prove properties of the image that they make.
pub mod Composition
pub mod Passes
pub mod Amounts
pub mod Sizes
pub mod ProgramImages
pub mod Chains
-- These modules have lemmas for the laws of the crate.
pub mod Preservation
pub mod KeepingUp
pub mod BoundedRuns
pub mod Asking
-- a worked example
pub mod ReadsFirst
-- This module computes an example of an image.
pub mod ImageExamples
