-- The definitions that the contracts of `read_image`, `read_outline` and `write_image` depend on.
pub mod Header
pub mod Note
pub mod Image
pub mod Reading
pub mod Outline
pub mod Layout
pub mod Fault
-- Contracts between the functions of the crate `cyc_elf`, and statements of its proofs. No public contract of the product depends on
-- these internal definitions.
pub mod inside
