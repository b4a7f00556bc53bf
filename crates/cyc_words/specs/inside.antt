-- These modules have definitions that the contracts inside this crate use.
pub mod Reader
pub mod Writer
-- This module defines simulation in the form in which each pass proves it.
pub mod Following
