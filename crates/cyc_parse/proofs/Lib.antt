-- Lemmas that the proofs of `parse` and of its laws cite.
pub mod Accepted
pub mod Ends
pub mod Naming
pub mod OneTree
-- Completeness: if symbols have a parse tree, the parser returns that tree, or rejects the first limit that it breaks.
pub mod Completeness
pub mod Rules
pub mod Signs
pub mod Lists
pub mod Stops
pub mod OperatorSigns
pub mod Starts
pub mod ExpressionReads
pub mod OperatorReads
pub mod RegionReads
pub mod OperandReads
pub mod InitialReads
pub mod TypeReads
pub mod StatementStarts
pub mod StatementReads
pub mod ItemReads
pub mod DeclarationReads
-- Soundness: a tree that the parser returns is a parse tree of the symbols; if a limit rejects a symbol, some program
-- begins with the symbols up to the rejected one.
pub mod Soundness
pub mod Gives
pub mod GivesSymbols
pub mod Openings
pub mod GivesTypes
pub mod GivesExpressions
pub mod GivesStatements
pub mod GivesDeclarations
-- The meaning of a rejection: the parser's decision depends on no symbol after the rejected one.
pub mod Refused
pub mod Locality
pub mod LocalTypes
pub mod LocalExpressions
pub mod LocalStatements
pub mod LocalDeclarations
-- Lemmas about the loops of the parser, and about its nesting levels and precedence levels.
pub mod Loops
pub mod Rounds
pub mod NextItems
pub mod Levels
pub mod LoneOperands
pub mod StatementLevels
pub mod StatementLoops
