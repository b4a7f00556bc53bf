-- what regions and objects stand for
pub mod WorldView
-- what the parts of a state stand for
pub mod View
-- what a run is reported by
pub mod Run
-- a run as it is reported
pub mod Reported
-- the contracts between this crate's functions: no public contract depends on them
pub mod inside
