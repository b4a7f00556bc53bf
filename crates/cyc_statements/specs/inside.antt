-- The contracts of this crate's functions refer to the typing rules of `cyc_types`. The modules below define the mathematical views
-- of the functions' results.
pub mod Nodes
pub mod Aliases
