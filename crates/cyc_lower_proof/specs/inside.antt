-- This module contains the definitions that the contract of the lowering uses.
pub mod Lowered
pub mod Words
pub mod Lowerable
-- These modules define the plain program as a function of the typed tree.
pub mod ValueCode
pub mod ObjectCode
pub mod ControlCode
pub mod ExpressionCode
pub mod Lowering
pub mod Slots
-- This module contains the bounds, on the words of frames and the targets of jumps, on which the code relies.
pub mod Bounds
