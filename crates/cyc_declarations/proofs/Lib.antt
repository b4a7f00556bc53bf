-- the lemmas that proofs of other crates cite
pub mod DeclarationLemmas
-- the lemmas that proofs of this crate cite
pub mod DeclaringLemmas
pub mod KeyLemmas
