-- the effects of ordinary MIPS instructions on registers and memory, and stretches of a run of the labelled machine
pub mod Views
pub mod Effects
pub mod Sequences
pub mod Walks
