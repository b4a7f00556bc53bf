-- the result of the function `collect`, and the parts of a typed program other than its functions (structs, exceptions, globals, `main`)
pub mod DeclarationRules
pub mod Parts
-- the contracts between functions of this crate
pub mod Declaring
pub mod KeyTables
