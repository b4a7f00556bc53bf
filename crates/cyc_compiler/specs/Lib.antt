-- These modules contain the definitions to which the contract of `compile` refers.
pub mod Compiled
pub mod FullPreservation
pub mod Asking
pub mod ProgramImage
-- These modules contain the definitions to which the contract of `bounds` refers.
pub mod Needs
-- This module states what the bounds mean for the runs of an image.
pub mod BoundedRuns
-- This module has the contracts between this crate's functions, and the statements of its proofs. No public contract of the product
-- depends on these internal definitions.
pub mod inside
