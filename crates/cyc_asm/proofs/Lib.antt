-- the lemmas from which the laws and the contract of `assemble` follow
pub mod Running
pub mod Stretches
pub mod Standing
pub mod Arranging
-- auxiliary lemmas on delay slots and reachable lines
pub mod Fillings
pub mod Moving
pub mod Passed
pub mod Passing
pub mod Exchanging
pub mod Fetching
pub mod Layouts
pub mod Leading
mod Lengths
pub mod Ordinary
pub mod Steps
pub mod Tables
-- examples by computation
pub mod Examples
