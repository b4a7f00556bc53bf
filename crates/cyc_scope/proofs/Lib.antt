-- lemmas that proofs of other crates cite
pub mod PlainLemmas
-- lemmas about regions that are live in the whole body of a function
mod ThroughoutLemmas
-- lemmas about the tables in which a declaration is found by its name
pub mod TableLemmas
pub mod EntryLemmas
pub mod LocalLemmas
