-- the definitions on which the contract of `resume` depends, and the laws of several calls
pub mod Resuming
pub mod Rows
-- The contracts between this crate's functions. No public contract depends on these internal definitions.
pub mod inside
