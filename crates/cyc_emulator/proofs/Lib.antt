-- running and listing
pub mod Engines
pub mod Listings
