-- lemmas for the law of compiled programs
pub mod CompiledRuns
-- lemmas for the law of bounded programs
pub mod BoundedReports
