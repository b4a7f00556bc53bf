-- the simulation relation between machine states and plain states
pub mod Matches
pub mod Waiting
pub mod Standing
pub mod Values
pub mod Arriving
pub mod Held
pub mod Stores
pub mod Places
pub mod Cells
