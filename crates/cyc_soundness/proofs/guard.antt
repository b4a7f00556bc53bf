-- These modules are about Boolean tests on natural numbers, and about the flow states of the flow rules.
pub mod Bools
pub mod States
-- These modules define the relation of a guard (the sets of locked, relied and peeked locals) to a flow state.
-- The modules prove that the flow rules preserve the relation of guards to flow states.
pub mod Fitting
pub mod Numbers
pub mod Followed
-- These modules prove from the flow rules that programs satisfy the guarded form of these rules, which the proofs about run states use.
pub mod Never
pub mod Kept
pub mod Whole
-- This module proves that each declared local in a well-typed tree has a fresh index.
pub mod WellNumbered
