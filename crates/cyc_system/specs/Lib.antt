-- the effect of running the result of `compile`
pub mod CompiledRuns
-- what the bounds of a program mean for the reports of its runs
pub mod BoundedReports
