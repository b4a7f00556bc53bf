-- This file defines the effect of a device's calls on the bytes that the device reports. `None` means that the device reports
-- nothing; then nothing is claimed. The model of devices is this project's own choice.
use Rattle.std.specs.Prelude.{ℕ, List, [], ◌∷◌, Bool, true, false, Option, None, Some, Result, Ok, Err}
use Rattle.std.specs.Io.KnownBytes.{Consumes, Appends, Keeps, IsAtEnd}
use Rattle.cyc_words.specs.Seen.{IsPrefix}

-- The effect of a call of `next`. A call of `next` takes a byte from the front of the unread bytes. The result `None` means that no byte
-- is left. A failed call of `next` changes nothing.
abbrev pub Gives : {E : Type 0} → Option (List ℕ) → Result (Option ℕ) E → Option (List ℕ) → Type 0
Gives old (Ok (Some byte)) new = Consumes old new (byte ∷ [])
Gives old (Ok None) new = IsAtEnd old × Keeps old new
Gives old (Err e) new = Keeps old new

-- Holds if a call of `next` returned the end of the input.
abbrev pub is_end : {E : Type 0} → Result (Option ℕ) E → Bool
is_end (Ok (Some byte)) = false
is_end (Ok None) = true
is_end (Err e) = false

-- The effect of a call of `put`: the byte is appended to the device's bytes; a failure appends nothing.
abbrev pub Takes : {A E : Type 0} → Option (List ℕ) → ℕ → Result A E → Option (List ℕ) → Type 0
Takes old byte (Ok a) new = Appends old new (byte ∷ [])
Takes old byte (Err e) new = Keeps old new

-- Says that some prefix of the text is appended to the bytes of the device.
abbrev pub AppendsPrefix : Option (List ℕ) → Option (List ℕ) → List ℕ → Type 0
AppendsPrefix old new text = (bytes : List ℕ) × IsPrefix bytes text × Appends old new bytes

-- Says that the complete text is appended to the bytes of the device or, on a failure, a prefix of the text.
abbrev pub TakesText : {A E : Type 0} → Option (List ℕ) → List ℕ → Result A E → Option (List ℕ) → Type 0
TakesText old text (Ok a) new = Appends old new text
TakesText old text (Err e) new = AppendsPrefix old new text
