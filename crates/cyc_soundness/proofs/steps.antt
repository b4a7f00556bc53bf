-- These modules prove that each step of a well-typed run state yields a well-typed run state.
pub mod Objects
pub mod ArrayObjects
pub mod Swapping
pub mod Places
pub mod Variables
pub mod Evaluation
pub mod Chains
pub mod Loans
pub mod Supply
pub mod Execution
pub mod Calls
pub mod Unwinding
