-- the contracts between functions inside the crate
pub mod Operand
