-- This module defines the relation between a source state and a plain state, and shows which steps preserve the relation.
pub mod places
pub mod code
pub mod contents
pub mod simulation
