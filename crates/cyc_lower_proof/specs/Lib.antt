-- This crate defines the contracts between its functions and the statements of its proofs. No public contract of the product depends
-- on these internal definitions.
pub mod inside
