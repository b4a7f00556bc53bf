-- This module proves the steps of regions and keys.
pub mod Scoped
pub mod Closings
pub mod Keys
pub mod WaysOut
pub mod RegionSteps
