-- This module proves the steps of exceptions and of their handlers.
pub mod Handling
pub mod ExceptionSteps
