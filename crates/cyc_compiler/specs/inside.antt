-- This module defines the contracts between the functions inside the crate.
pub mod Chain
