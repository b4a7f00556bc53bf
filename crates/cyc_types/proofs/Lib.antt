-- lemmas that proofs of other crates cite
pub mod RuleLaws
pub mod TypedTreeViewLemmas
pub mod WeightLemmas
pub mod typing
-- lemmas that proofs of this crate cite
pub mod RegionLemmas
pub mod ClosureLemmas
pub mod TableLemmas
pub mod PlaceLemmas
pub mod SearchLemmas
pub mod OpeningLemmas
pub mod NameLemmas
pub mod StructLemmas
pub mod FormationLemmas
-- examples, by computation
pub mod RuleExamples
pub mod OutlivesExamples
pub mod flow
