-- These modules define the request of a command line, its limits on runs, the display of a source position, the page on
-- a fault code, and JSON for faults.
pub mod Request
pub mod Limits
pub mod Excerpt
pub mod Pages
pub mod Json
