-- This module proves the steps of pointer operators and of accesses through pointers.
pub mod PointerSteps
pub mod FatSteps
pub mod ElementWords
pub mod Elements
pub mod Narrowing
pub mod ThinSteps
