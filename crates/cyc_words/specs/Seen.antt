-- This file defines the observable part of a run at some moment. The definition of the observable part is this project's own choice.
use Rattle.std.specs.Prelude.{◌≡◌, ℕ, List, ◌++◌}

-- Says that one list of bytes is a prefix of another: ys is xs followed by some rest.
abbrev pub IsPrefix : List ℕ → List ℕ → Type 0
IsPrefix xs ys = (rest : List ℕ) × (ys ≡ xs ++ rest)

-- The observation of a run: all output so far, and the unread rest of the input.
pub record Seen : Type 0 where
  pub output : List ℕ
  pub rest : List ℕ

-- The observation with this output and this unread input.
abbrev pub showing : (output rest : List ℕ) → Seen
showing output rest = record { output = output; rest = rest }

-- Says that the observation `now` may come after `first`. The earlier output is a prefix of the later output. The later unread input is a
-- rest of the earlier unread input.
abbrev pub ComesTo : (first now : Seen) → Type 0
ComesTo first now = IsPrefix first.output now.output × ((read : List ℕ) × (first.rest ≡ read ++ now.rest))
