-- the lemmas that proofs of other crates cite
pub mod Loops
-- the lemmas that proofs of this crate cite
pub mod Chains
pub mod Arms
