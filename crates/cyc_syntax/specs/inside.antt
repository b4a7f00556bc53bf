-- source positions in the compiler's representation
pub mod Place
-- the search structure that finds the number of a name by a key, which is computed from the name's bytes
pub mod NameIndex
pub mod Weight
-- the syntax trees that the compiler builds, viewed as mathematical trees
pub mod TreeView
