-- demands
pub mod Settling
pub mod Handed
