-- contracts of internal functions: the typing and flow rules as functions, and the table of outlives constraints
pub mod Openings
pub mod RegionMarks
pub mod ConstraintPlaces
pub mod Names
pub mod StructTables
pub mod WrittenMarks
pub mod Namings
pub mod SignatureView
pub mod flow
pub mod typing
