-- These modules prove facts that hold for each typed syntax tree that the flow rules accept.
pub mod FlowLemmas
pub mod RuleLemmas
pub mod Looking
pub mod Touched
pub mod Locking
