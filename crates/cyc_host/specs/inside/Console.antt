-- This file defines the bytes yet to be read from standard input, the bytes written to standard output, and the final outcome of a command.
use Rattle.std.specs.Prelude.{◌≡◌, ◌⊎◌, ℕ, Bool, false, List, [], Option}
use Rattle.std.specs.Io.Buffered.{reader_remaining, writer_contents, writer_buffer}
use Rattle.cyc_host.specs.declared.answer.Answer.{Answer}
use Rattle.cyc_host.specs.declared.answer.Answer.TheVariants.{WriteFault}
use Rattle.cyc_host.specs.declared.console.Keyboard.{Keyboard}
use Rattle.cyc_host.specs.declared.console.Screen.{Screen}

-- The bytes yet to be read from standard input: the bytes in the buffer, followed by the bytes of the reader.
abbrev pub keyboard_remaining : {R : Type 0} → (R → Option (List ℕ)) → Keyboard R → Option (List ℕ)
keyboard_remaining remaining k = reader_remaining remaining k.input

-- The bytes written to standard output: the bytes of the writer, followed by the bytes in the buffer.
abbrev pub screen_written : {W : Type 0} → (W → Option (List ℕ)) → Screen W → Option (List ℕ)
screen_written contents s = writer_contents contents s.output

-- The bytes of standard output that are still in the buffer.
abbrev pub screen_held : {W : Type 0} → Screen W → List ℕ
screen_held s = writer_buffer s.output

-- True if some buffered bytes could not be flushed when they had to be.
abbrev pub screen_is_stuck : {W : Type 0} → Screen W → Bool
screen_is_stuck s = s.is_stuck

-- Says how a command's outcome `answer` and its buffered output determine the final outcome. It is `answer` if the buffer is empty
-- at the end and every required flush succeeded; otherwise it is that a write failed.
abbrev pub EndsAs : Answer → (held : List ℕ) → (stuck : Bool) → (last : Answer) → Type 0
EndsAs answer held stuck last = ((last ≡ answer) × (held ≡ []) × (stuck ≡ false)) ⊎ (last ≡ WriteFault)
