-- proofs of the laws of runs, slots and words that `src/laws.rt` states
pub mod RunLaws
pub mod SlotLaws
pub mod Steps
pub mod Placed
pub mod WordLaws
pub mod MemoryLaws
pub mod CallLaws
pub mod Straight
-- checks for stack space (`Enter`)
pub mod Rooms
-- programs without checks for stack space
pub mod Uniform
-- worked examples
pub mod Examples
