-- These modules contain example source texts, and example programs that the typing and flow rules accept or reject.
pub mod Examples
pub mod LaterRegions
pub mod KeyFields
pub mod AcceptedPrograms
pub mod RefusedByTypes
pub mod RefusedByFlow
