-- definitions of texts and their tokens
pub mod Spelling
pub mod Tokens
pub mod TokenRule
-- definitions of symbols and their syntax trees
pub mod Names
pub mod Symbols
pub mod Trees
pub mod Yields
pub mod Grammar
pub mod Sums
-- The contracts between this crate's functions, and the statements of its proofs. No public contract of the product depends on these
-- internal definitions.
pub mod inside
