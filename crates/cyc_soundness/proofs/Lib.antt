-- The proofs have one folder for each topic; the header of each proof file states the contents of the file.
mod types
mod guard
mod flow
mod states
mod steps
-- These modules prove the soundness theorem for the programs in the class that it covers, and for programs
-- that the typing rules derive from source texts. Dependent crates cite the soundness theorem.
mod Whole
pub mod FormedLemmas
-- examples
mod examples
