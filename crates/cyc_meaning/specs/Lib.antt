-- Definitions of the meaning of programs.
pub mod Values
pub mod Operators
pub mod Pointers
pub mod Conversion
pub mod State
pub mod Objects
pub mod Parts
pub mod Swaps
pub mod Places
pub mod Allocation
pub mod Exceptions
pub mod Regions
pub mod Step
pub mod Run
-- Definitions that the laws and the contracts of the compiler use in addition to the semantics.
pub mod SourceMachine
pub mod FrameCount
pub mod Sizes
-- Contracts between the functions of the crate `cyc_meaning`, and statements of its proofs. No public contract of the product depends
-- on these internal definitions.
pub mod inside
