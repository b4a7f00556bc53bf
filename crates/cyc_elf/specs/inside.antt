-- The contracts between the functions inside the crate `cyc_elf`.
pub mod Parts
