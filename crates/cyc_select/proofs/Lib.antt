-- The proofs of this crate have one folder for each topic. Each file begins with a summary of its contents.
pub mod emission
pub mod layout
pub mod effects
pub mod values
pub mod relation
pub mod steps
pub mod runs
-- the theorems from which the contract of `select` follows
pub mod Laws
-- examples: the numbers of MIPS lines selected for some pieces of code, proved by computation
pub mod Examples
