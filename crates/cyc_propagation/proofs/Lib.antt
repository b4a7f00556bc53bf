-- changes of memory
pub mod Memory
-- the proof that the facts preserved by an instruction (facts about slots and memory) stay true when the instruction is executed
pub mod Truth
pub mod Trailing
pub mod States
pub mod Kept
-- the proof that replacements have the effect of the original instructions
pub mod Same
pub mod Steps
-- the proof that the facts in a table that passed its check are true in each run
pub mod Tables
-- the proof that each run of a simplified program is a run of the original program
pub mod Alike
pub mod Runs
-- the proof that the simplified program is plain (well-formed, with numbers that fit machine words) and not larger than the original one
pub mod Suited
pub mod Words
pub mod Sizes
pub mod Routines
pub mod Plain
-- the proof that facts about stack space are true, and that dropping redundant checks for stack space keeps the behaviour
pub mod Rooms
pub mod Spared
pub mod Sparing
-- the contracts of the functions of this crate
pub mod Keeping
pub mod Found
pub mod Marked
pub mod About
pub mod Ranges
pub mod Narrowed
pub mod Straight
pub mod Entered
pub mod Walks
pub mod Tails
