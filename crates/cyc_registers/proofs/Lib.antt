-- A liveness table that passed its check misses no code position where a slot is live.
pub mod Bits
pub mod UsesTable
pub mod CheckedLiveness
-- Lemmas that the homes of slots (each is a register, memory or both) are correct.
pub mod Meeting
pub mod CheckedHomes
pub mod IdleCode
pub mod FillCode
