-- the contracts between the functions of this crate
pub mod Turn
