-- Proofs that the reader implements the rules of the format.
pub mod Rules
pub mod Walks
pub mod Apart
pub mod Answering
-- Proofs that the images that the reader returns are well-formed.
pub mod Sound
-- the writer
pub mod Appends
pub mod Writes
-- The proof that a written file is read as the image that was written.
pub mod Again
-- An example file that is read by computation.
pub mod Examples
