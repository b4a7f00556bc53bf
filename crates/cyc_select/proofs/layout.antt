-- the proof that the selected code is well-formed, fits the text range, and begins for each instruction at the line number counted for it
pub mod Whole
pub mod Inside
pub mod Formed
pub mod FormedOperations
pub mod Parts
pub mod Structure
pub mod Lines
pub mod OwnLines
