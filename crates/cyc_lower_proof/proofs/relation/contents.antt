-- This module describes the values stored in slots, variables and memory, and shows which of these values are preserved.
pub mod HeldValues
pub mod Data
pub mod HandlerData
pub mod GrowingData
pub mod Moves
pub mod Counters
pub mod Sharing
pub mod WaitingData
