-- The contracts between this crate's functions, and the statements of its proofs. No public contract of the product depends on these
-- internal definitions.
pub mod inside
