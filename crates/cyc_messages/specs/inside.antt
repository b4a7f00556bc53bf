-- the codes of the faults of names, types or regions, which have an explanation
pub mod Refusal
