-- proofs about texts and their tokens
pub mod PieceLemmas
pub mod CutLemmas
pub mod PlaceLemmas
-- names and trees
pub mod NameLemmas
pub mod NameIndexLemmas
pub mod WeightLemmas
pub mod TreeViewLemmas
-- examples, by computation
pub mod TokenExamples
