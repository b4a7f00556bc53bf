-- This file defines the state of a `Reader`.
use Rattle.std.specs.Prelude.{Bool}
use Rattle.cyc_words.specs.declared.reader.Reader.{Reader}

-- The reader of std from which the device reads.
abbrev pub reader_inner : {R : Type 0} → Reader R → R
reader_inner s = s.inner

-- Holds if the reader has returned `Failed`.
abbrev pub reader_has_failed : {R : Type 0} → Reader R → Bool
reader_has_failed s = s.has_failed

-- Holds if the reader has returned the end of the input.
abbrev pub reader_has_ended : {R : Type 0} → Reader R → Bool
reader_has_ended s = s.has_ended

-- Holds if a byte was requested after the end of the input.
abbrev pub reader_was_asked_past_end : {R : Type 0} → Reader R → Bool
reader_was_asked_past_end s = s.was_asked_past_end
