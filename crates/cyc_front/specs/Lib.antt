-- the definitions that the contracts of `accept` and `run_phases` use
pub mod Front
-- Contracts between this crate's functions, and statements of its proofs. No public contract of the product depends on these internal
-- definitions.
pub mod inside
