-- This module is about the ranges of the limits on pages and calls that an image contains.
pub mod Limits
