-- This module proves the steps of calls, returns and statements.
pub mod Calls
pub mod Returns
pub mod StatementSteps
