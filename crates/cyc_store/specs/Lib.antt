pub mod Answers
pub mod Ledger
pub mod Made
pub mod Ordered
pub mod Pages
pub mod Run
pub mod Services
pub mod Slots
pub mod Soundness
pub mod State
pub mod Table
-- This module has the contracts between this crate's functions, and the statements of its proofs. No public contract of the product
-- depends on these internal definitions.
pub mod inside
