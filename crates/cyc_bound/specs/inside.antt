-- an invariant about the active calls of a state
pub mod UnderWay
-- the functions called in single elements of lists in typed trees (such as statements), and the contract of the search over chains of calls
pub mod Parts
pub mod Walk
-- the remaining cost of a run in each of its states
pub mod Remaining
-- the costs of single elements of lists in typed trees
pub mod ItemCosts
-- an invariant of programs whose lexical regions free all blocks allocated in them
pub mod Outermost
-- the rounds that compute the costs of functions
pub mod Rounds
-- the functions reachable from `main`
pub mod Reached
-- the costs of regions that are open at the same time
pub mod RegionCosts
