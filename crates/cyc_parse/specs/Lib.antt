-- Definitions that the contract of `parse` and the laws of the parser use.
pub mod Acceptance
pub mod Refusals
pub mod Faults
-- Contracts between the parser crate's functions, and statements of its proofs. No public contract of the product depends on these
-- internal definitions.
pub mod inside
