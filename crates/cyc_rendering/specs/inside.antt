-- the syntax tree of a text
pub mod Reading
