-- These modules define words of 32 bits, bytes, faults, and devices, which the contracts of this crate use.
pub mod Word
pub mod Bytes
pub mod Fault
pub mod Seen
pub mod Device
-- These modules have definitions that the contracts of many crates use.
pub mod Decision
pub mod Ending
pub mod Demand
pub mod Distinct
pub mod Simulation
-- This module has the contracts between this crate's functions, and the statements of its proofs. No public contract of the product
-- depends on these internal definitions.
pub mod inside
