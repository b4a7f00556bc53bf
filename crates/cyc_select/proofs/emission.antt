-- the contracts of the methods that emit lines, and the numbers of MIPS lines that they emit
pub mod Emitting
pub mod Counts
pub mod Numbering
pub mod Sizes
