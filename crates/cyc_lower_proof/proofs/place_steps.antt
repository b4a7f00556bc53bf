-- This module proves the steps that evaluate address expressions and that read and write the cells at these addresses.
pub mod PlaceWords
pub mod KindWords
pub mod StoredWords
pub mod Sources
pub mod CellLoads
pub mod CellReads
pub mod CellWrites
pub mod WideCells
pub mod WideLoads
pub mod AddressSteps
pub mod SwapSteps
pub mod PlaceSteps
