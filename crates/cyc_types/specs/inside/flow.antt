-- The flow rules of the whole language.
pub mod Readings
