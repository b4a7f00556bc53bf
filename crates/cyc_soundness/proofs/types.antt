-- These modules define how types, values and regions are interpreted when each region variable denotes a lifetime.
pub mod TypeLemmas
pub mod ValueLemmas
pub mod RegionLemmas
pub mod CallRegions
pub mod Sharing
