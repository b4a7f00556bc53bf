-- the MIPS machine: its state, a step, a run, and the initial state for an image
pub mod State
pub mod Step
pub mod Run
pub mod Bounds
pub mod Start
-- the MIPS machine as a transition system, and the text and the sizes that no step changes
pub mod WorldMachine
pub mod Shape
