-- This file defines the state of a `Writer`.
use Rattle.std.specs.Prelude.{Bool}
use Rattle.cyc_words.specs.declared.writer.Writer.{Writer}

-- The writer of std to which the device writes.
abbrev pub writer_inner : {W : Type 0} → Writer W → W
writer_inner s = s.inner

-- Holds if the writer has returned `Failed`.
abbrev pub writer_has_failed : {W : Type 0} → Writer W → Bool
writer_has_failed s = s.has_failed
