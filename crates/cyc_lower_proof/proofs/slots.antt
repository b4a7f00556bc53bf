-- This module is about the slots of locals and the words of globals.
pub mod Widths
pub mod CellBytes
pub mod Slots
pub mod LocalSlots
pub mod GlobalWords
