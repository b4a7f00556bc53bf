mod Sharing
mod Places
mod Values
pub mod WordLemmas
pub mod Columns
pub mod Links
pub mod FreePages
pub mod PoolLemmas
pub mod Fresh
pub mod Heads
pub mod Masks
pub mod BitRuns
