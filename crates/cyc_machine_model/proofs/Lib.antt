-- lemmas about the MIPS machine that the laws and the proofs of compilation cite
pub mod StepLaws
pub mod RunLaws
pub mod ShapeLaws
pub mod PhaseLaws
pub mod RegisterLaws
pub mod MemoryLaws
-- runs by computation
pub mod Choosing
