pub mod DeclaredTypes
pub mod Inside
pub mod Blocks
pub mod Clauses
pub mod Catches
pub mod FunctionLoops
pub mod ProgramLemmas
