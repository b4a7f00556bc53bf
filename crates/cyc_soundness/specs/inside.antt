-- These modules define the flow rules as relations on states.
pub mod guard
-- These modules define the typing of the states of a run.
pub mod Lives
pub mod Worlds
pub mod Frames
pub mod Judgements
pub mod Awaited
pub mod Stacks
-- This module defines the class of programs that the soundness proof covers.
pub mod Classes
