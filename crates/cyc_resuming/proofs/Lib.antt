pub mod Resumings
pub mod Together
