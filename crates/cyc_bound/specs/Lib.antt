-- the functions that a program calls, and a bound on the number of active calls
pub mod Callees
pub mod Bound
-- states in which a run has ended, and upper bounds on the costs of runs
pub mod Steps
pub mod Costs
pub mod AtOnce
pub mod Pages
-- Contracts between this crate's functions, and statements of its proofs. No public contract of the product depends on these internal
-- definitions.
pub mod inside
