-- the machine as `cyc_machine_model` defines it
pub use Rattle.cyc_machine_model.specs.State
pub use Rattle.cyc_machine_model.specs.Step
pub use Rattle.cyc_machine_model.specs.Run
pub use Rattle.cyc_machine_model.specs.Bounds
pub use Rattle.cyc_machine_model.specs.Start
pub use Rattle.cyc_machine_model.specs.WorldMachine
pub use Rattle.cyc_machine_model.specs.Shape
-- the results of instructions that print or request a byte
pub mod Exchanging
-- a machine that exchanges bytes with devices itself
pub mod Between
-- the machine with any type of heap store
pub mod Held
-- the representation of memory by arrays, used only by the crate's own functions
pub mod Arrays
-- Contracts between this crate's functions, and statements of its proofs. No public contract of the product depends on these internal
-- definitions.
pub mod inside
