-- Lemmas that the proofs of the compiler cite.
pub mod RunLaws
-- Lemmas that the laws of this crate cite.
pub mod Outcomes
pub mod WorldLaws
pub mod DemandLaws
pub mod NestingLemmas
pub mod Nested
-- Typed trees and notation for the examples.
pub mod ExampleTrees
pub mod Examples
pub mod StepExamples
pub mod HeapExamples
pub mod ExceptionExamples
pub mod UniqueExamples
pub mod RegionExamples
pub mod DeadExamples
pub mod FrameExamples
pub mod ValueExamples
pub mod CharExamples
-- variables of blocks
pub mod VariableLemmas
pub mod VariableChanges
pub mod VariableDeclared
pub mod VariableParts
pub mod VariableValues
pub mod VariableSteps
pub mod Rising
pub mod VariableRuns
