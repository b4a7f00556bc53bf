-- This module has the contract of the function `note_of`, which reads the limits in an image, and the statements of compilation
-- about these limits.
pub mod Notes
