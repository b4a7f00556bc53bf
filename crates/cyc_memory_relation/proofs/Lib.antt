-- This module contains the lemmas that the proofs of the compiler cite.
pub mod Places
pub mod Bytes
pub mod Values
pub mod Pointers
pub mod Chars
pub mod RegionLemmas
pub mod Serving
pub mod Cells
pub mod Comparing
pub mod Making
pub mod Variables
pub mod Services
pub mod Closing
pub mod Scopes
pub mod Start
-- This module contains the examples of this crate.
pub mod Examples
