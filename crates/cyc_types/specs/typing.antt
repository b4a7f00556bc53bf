-- The typing rules of the whole language.
pub mod Scopes
pub mod Tests
pub mod Formation
pub mod Expressions
pub mod Statements
pub mod DeclarationRules
pub mod Programs
pub mod WellTyped
