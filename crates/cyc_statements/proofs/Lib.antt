-- This module has the lemmas that the proofs of this crate cite.
pub mod Aliases
