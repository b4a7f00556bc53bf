-- lemmas about demands
pub mod Settling
-- lemmas about calls
pub mod Instances
pub mod FittedValues
pub mod PassedValues
pub mod PlainCalls
-- Lemmas about calls that construct new structs.
pub mod NewStructs
