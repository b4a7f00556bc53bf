-- the simulation of any instruction, and of whole runs
pub mod Runs
pub mod Start
