-- These modules define the flow rules as relations on states, in the form that a proof about runs needs.
pub mod Held
pub mod Expressions
pub mod Statements
pub mod Programs
