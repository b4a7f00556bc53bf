-- what an access finds
pub mod Found
-- how a step may change the number of calls under way
pub mod Depth
