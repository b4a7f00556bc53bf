-- These modules have the definitions that the contract of `lex` uses.
pub mod Refusals
-- This module has the contracts between this crate's functions, and the statements of its proofs. No public contract of the product
-- depends on these internal definitions.
pub mod inside
