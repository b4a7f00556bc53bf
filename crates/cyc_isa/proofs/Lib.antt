-- lemmas: decoding and encoding are inverse to each other
pub mod Fields
pub mod Operands
pub mod Selected
pub mod Numbers
pub mod RoundTrip
-- lemmas about the words that encode instructions
pub mod AnyLemmas
pub mod Instances
pub mod Listed
pub mod Sound
-- lemmas about the text of an instruction and about effects, for other crates
pub mod TextLemmas
pub mod EffectLemmas
-- lemmas about the registers that instructions write
pub mod UseLemmas
-- worked examples, by computation
mod Examples
mod UseExamples
