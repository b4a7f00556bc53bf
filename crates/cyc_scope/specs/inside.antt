-- contracts that other crates use: how the results of the checker relate to the typing rules, the meanings of names, and the scope
-- after a block is left
pub mod Code
pub mod Meanings
pub mod Marks
pub mod Bodies
pub mod Plain
-- contracts between functions of this crate
pub mod Codes
pub mod Tables
pub mod Entries
pub mod Throughout
