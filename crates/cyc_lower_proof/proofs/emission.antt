-- The code that the lowering emits is the code that the simulation relation requires.
pub mod Leaving
pub mod Alike
pub mod Lengths
pub mod CodeLengths
pub mod Blocks
pub mod OperandBridge
pub mod ExpressionBridge
pub mod ConditionBridge
pub mod StatementBridge
pub mod Bridge
