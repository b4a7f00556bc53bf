-- The typing rules of the whole language.
pub mod Formed
pub mod Readings
