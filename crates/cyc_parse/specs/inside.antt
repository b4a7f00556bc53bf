-- Contracts between the functions of the parser crate: the parser as functions on lists of symbols.
pub mod Parsing
pub mod Types
pub mod Expressions
pub mod Statements
pub mod Declarations
pub mod Answers
-- States how the results of the parser's code correspond to those of the specified parser of symbols.
pub mod Code
pub mod Boxes
pub mod Steps
pub mod StatementSteps
