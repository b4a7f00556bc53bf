-- This module proves the steps that allocate and free objects.
pub mod Handles
pub mod Asking
pub mod Allocations
pub mod ArrayWords
pub mod ArrayBlocks
pub mod Arrays
pub mod UniqueBlocks
