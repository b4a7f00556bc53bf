-- The specification's form of the tree nodes for operands, and for objects that `new` creates, which the
-- checker's code builds, as the typing rules use them.
pub mod Operands
