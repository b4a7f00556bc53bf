-- the definition on which the contract of `format` depends
pub mod Formatted
