-- the limits that follow from a program's bounds
pub mod LimitsFrom
