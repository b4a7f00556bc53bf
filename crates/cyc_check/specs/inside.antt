-- The contract of `check` refers only to the definitions of `cyc_types`. The modules below contain the contracts between the functions of
-- this crate.
pub mod Inside
pub mod Walks
pub mod FunctionParts
