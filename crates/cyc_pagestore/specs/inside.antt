pub mod Links
pub mod Live
pub mod Table
pub mod Stored
pub mod Usage
