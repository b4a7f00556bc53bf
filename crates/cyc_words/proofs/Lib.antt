-- These modules have lemmas that the laws and other crates cite.
pub mod WordLemmas
pub mod BytesLemmas
pub mod WordBytesLemmas
pub mod PrefixLemmas
pub mod SeenLemmas
pub mod EndingLemmas
pub mod DeviceLemmas
pub mod Decisions
-- These modules have lemmas on boolean tests, lists and numbers.
pub mod Booleans
pub mod Lists
pub mod Numbers
pub mod Integers
pub mod Bits
pub mod Options
pub mod Items
pub mod Members
pub mod Searches
pub mod Ranges
pub mod Sums
-- These modules have lemmas on simulations between machines.
pub mod Simulation
pub mod Matching
pub mod SimulationExamples
pub mod SeenExamples
pub mod Prices
