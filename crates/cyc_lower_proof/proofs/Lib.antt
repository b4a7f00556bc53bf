-- The proofs have one folder for each topic; the header of each proof file states the contents of the file.
pub mod acceptance
pub mod slots
pub mod emission
pub mod relation
pub mod value_steps
pub mod place_steps
pub mod pointer_steps
pub mod object_steps
pub mod region_steps
pub mod handler_steps
pub mod call_steps
pub mod sizes
-- examples
pub mod Examples
pub mod CharExamples
