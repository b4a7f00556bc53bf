-- sets of numbers
pub mod Sets
-- the flow state of each local variable
pub mod Tables
pub mod States
-- undoing of changes
pub mod Trails
-- nodes of typed trees that contain lists, and the flow states after these lists
pub mod Walks
pub mod KeptNodes
