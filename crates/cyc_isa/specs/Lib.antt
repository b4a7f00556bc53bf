-- the table of instructions, and the definitions for the contracts of `encode`, `decode` and `write_text`
pub mod Field
pub mod Table
pub mod Encoding
pub mod Decoding
pub mod Text
-- the result of each operation, for the definition of the machine
pub mod Effect
-- the registers that an instruction reads and writes
pub mod Uses
-- Contracts between this crate's functions, and statements of its proofs. No public contract of the product depends on these internal
-- definitions.
pub mod inside
