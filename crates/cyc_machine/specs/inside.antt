-- the operations of the fast loop, used only by the crate's own functions
pub mod Operations
-- the system calls of the heap that the fast loop performs
pub mod Serving
