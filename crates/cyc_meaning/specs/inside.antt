-- Definitions that the laws and the contracts of the compiler use.
pub mod Effects
pub mod Nesting
pub mod Variables
