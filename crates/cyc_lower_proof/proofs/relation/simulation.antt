-- This module defines the relation between a source state and a plain state, and how steps and runs are matched.
pub mod Shared
pub mod Stacks
pub mod Relation
pub mod Weights
pub mod Matched
pub mod Paths
pub mod Keeping
pub mod Accesses
pub mod Whole
