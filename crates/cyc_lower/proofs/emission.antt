-- proofs about the functions that emit code and count words
pub mod Emitting
pub mod ExpressionEmitting
pub mod CellCode
pub mod Branching
pub mod Loops
pub mod Breaks
pub mod Conditions
pub mod Handlers
pub mod Turned
