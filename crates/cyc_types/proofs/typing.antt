-- The typing rules of the whole language derive only well-typed trees.
pub mod ListLemmas
pub mod TestLemmas
pub mod ExpressionLemmas
pub mod CountLemmas
pub mod StatementLemmas
pub mod NamingLemmas
pub mod FormedLemmas
pub mod FormedPrograms
pub mod ProgramLemmas
pub mod WeightLemmas
pub mod TreeConstants
pub mod DemandLemmas
pub mod TextLemmas
-- examples, by computation
pub mod Examples
