-- definitions for the contracts of the type checker, the flow checker and later passes
pub mod Types
pub mod TypeView
pub mod TypedTrees
pub mod TypedTreeView
pub mod Declarations
pub mod Rules
pub mod typing
pub mod flow
pub mod Numbered
pub mod Demands
pub mod Texts
pub mod Weight
pub mod Outlives
-- contracts of internal functions: the typing and flow rules as functions, and the table of outlives constraints
pub mod Closure
-- Contracts between this crate's functions, and statements of its proofs. No public contract of the product depends on these internal
-- definitions.
pub mod inside
