-- This module proves that the lowered program is well-formed, consists of 32-bit words, and has a size bounded by the number of
-- tokens of the source. These facts complete the proof of the lowering's contract.
pub mod RangeLemmas
pub mod ValueRoom
pub mod ValueRanges
pub mod ExpressionRanges
pub mod ConditionRanges
pub mod StatementRanges
pub mod Targets
pub mod WellFormed
pub mod PieceWords
pub mod ExpressionWords
pub mod WordLemmas
pub mod PieceSizes
pub mod ExpressionSizes
pub mod Sizes
pub mod NeedBounds
pub mod Lowerings
