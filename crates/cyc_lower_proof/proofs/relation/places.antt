-- This module says where objects, globals and locals are in memory, and what pointers point to.
pub mod Known
pub mod Leads
pub mod Rows
pub mod GlobalRows
pub mod Pinned
pub mod Named
pub mod Apart
