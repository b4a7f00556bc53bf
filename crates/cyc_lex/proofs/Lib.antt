-- These modules have lemmas that the proofs of `lex` and of the laws cite.
pub mod AnswerLemmas
pub mod FaultLemmas
pub mod LexLemmas
pub mod LineLemmas
pub mod ShapeLemmas
-- These modules have lemmas that the piece (token, space or comment) that is read is the longest one.
pub mod CommentLemmas
pub mod NameReading
pub mod NumberLemmas
pub mod NumberReading
pub mod SlashReading
