-- The contract of `flow` uses only the definitions of `cyc_types`. The modules below contain the contracts between the functions of this
-- crate.
pub mod Bits
pub mod Code
pub mod Numbers
pub mod Steps
pub mod Tables
