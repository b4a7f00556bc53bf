-- lemmas about the bytes in words
pub mod Bytes
-- the fast loop
pub mod Operations
pub mod Jumps
pub mod FastLoop
pub mod Between
pub mod BetweenShape
pub mod Serving
-- lemmas about the memory words that the machine stores, and about those that it does not store because they are 0
pub mod Widening
-- loading
pub mod Segments
-- runs by computation
pub mod Examples
