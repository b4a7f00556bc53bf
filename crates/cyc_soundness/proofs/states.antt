-- These modules are about the typing of run states: how the facts about objects grow, and how resources (keys and unique pointers) are
-- transferred.
pub mod WorldLemmas
pub mod Hands
pub mod StillHands
pub mod CallHands
pub mod StackLemmas
pub mod StackClaims
pub mod StackLocals
pub mod Cells
