-- This module says where the code of each construct is, and which requirements the code has on the tree.
pub mod Stands
pub mod Statements
pub mod Tested
pub mod Fitting
pub mod GivenTypes
pub mod Fitted
pub mod Moving
pub mod Levels
