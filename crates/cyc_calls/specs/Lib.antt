-- Contracts between the functions of the crate `cyc_calls`, and statements of its proofs. No public contract of the product depends
-- on these internal definitions.
pub mod inside
