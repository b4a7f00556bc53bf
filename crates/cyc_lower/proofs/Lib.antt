-- proofs about code that is emitted piece by piece
pub mod emission
pub mod Routines
-- the proof that the result of `lower` is correct
pub mod LoweringAnswers
