-- Names are numbered: the distinct texts of a list have numbers from 0 on, in the order of their first occurrence. (That trees refer to
-- names by these numbers is this project's own choice.)
use Rattle.std.specs.Prelude.{◌≢◌, ℕ, Bool, if◌then◌else◌, List, [], ◌∷◌, ◌++◌, fold, AllPairs}
use Rattle.std.specs.List.{list_any, position_or_len}
use Rattle.std.specs.Str.{bytes_eq}

-- Returns true if the text is in the list.
abbrev pub is_among : List ℕ → List (List ℕ) → Bool
is_among text texts = list_any (bytes_eq text) texts

-- Returns the list of texts after a text is added: a text that is not in the list is appended.
abbrev pub with_text : List (List ℕ) → List ℕ → List (List ℕ)
with_text texts text = if is_among text texts then texts else texts ++ text ∷ []

-- Returns the distinct texts of a list, in the order of their first occurrence.
abbrev pub distinct_texts : List (List ℕ) → List (List ℕ)
distinct_texts texts = fold with_text [] texts

-- Returns the number of a text: its index in the list.
abbrev pub number_of : List (List ℕ) → List ℕ → ℕ
number_of texts text = position_or_len (bytes_eq text) texts

-- `AreDistinct` says that no text occurs twice in the list.
abbrev pub AreDistinct : List (List ℕ) → Type 0
AreDistinct texts = AllPairs (λ a b. a ≢ b) texts
