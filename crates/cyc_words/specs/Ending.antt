-- This file defines how a run ends, for the source program, the plain program and the machine. The classification of endings is this
-- project's own choice.
use Rattle.std.specs.Prelude.{◌≡◌, ℕ, ℤ}

-- The run returned a value from `main`, or ended by an uncaught exception, or ran out of space for heap pages or calls. The exception
-- is given by its tag and its value, which is 0 if the exception has no value.
pub data Ending : Type 0 where
  Returned : ℤ → Ending
  Uncaught : ℕ → ℤ → Ending
  Full : Ending

-- Says that two runs ended with equal returned values, with equal uncaught exceptions, or both for lack of space.
abbrev pub Alike : Ending → Ending → Type 0
Alike (Returned x) (Returned y) = x ≡ y
Alike (Uncaught t x) (Uncaught u y) = (t ≡ u) × (x ≡ y)
Alike Full Full = Unit {0}
Alike (Returned x) (Uncaught u y) = ⊥
Alike (Returned x) Full = ⊥
Alike (Uncaught t x) (Returned y) = ⊥
Alike (Uncaught t x) Full = ⊥
Alike Full (Returned y) = ⊥
Alike Full (Uncaught u y) = ⊥
