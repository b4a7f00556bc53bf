-- The flow rules of the whole language.
pub mod States
pub mod Touched
pub mod Expressions
pub mod Statements
pub mod Programs
