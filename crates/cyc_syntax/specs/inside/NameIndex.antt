-- A text is looked up among the names by its key, a number. A text whose key an earlier text has is looked up by the text itself. The
-- lookup of names by keys is this project's own choice.
use Rattle.std.specs.Prelude.{◌≡◌, ℕ, ◌+◌, ◌*◌, ◌^◌, ◌%◌, ◌<◌, if◌then◌else◌, List, length, fold, get_or, [], Option, Some, None, IfSome, Vec}
use Rattle.std.specs.Global.{Global}
use Rattle.std.specs.Ordering.{nat_cmp}
use Rattle.std.specs.Str.{bytes_eq}
use Rattle.std.specs.Cmp.Lexicographic.{slice_cmp}
use Rattle.std.specs.BTreeMap.{BTreeMap, get_by}
use Rattle.cyc_syntax.specs.Names.{is_among, number_of}

-- Returns the key of a text: its bytes as the digits of a number, modulo 2 ^ 64.
abbrev pub key_of : List ℕ → ℕ
key_of text = fold (λ key byte. (key * 257 % 2 ^ 64 + byte) % 2 ^ 64) 0 text

-- Returns the number that identifies the text with the given key in the map from keys, if the map has this key.
abbrev pub first_in : BTreeMap ℕ ℕ → ℕ → Option ℕ
first_in firsts key = get_by (nat_cmp key) firsts

-- The map `others` has the texts whose key equals that of an earlier text. Returns the number that
-- identifies a text, if the text is in the map `others`.
abbrev pub other_in : BTreeMap (Vec ℕ Global) ℕ → List ℕ → Option ℕ
other_in others text = get_by (λ v. slice_cmp nat_cmp text v.items) others

-- Returns the number of a text, or `None` if the list does not contain it.
abbrev pub number_if : List (List ℕ) → List ℕ → Option ℕ
number_if texts text = if is_among text texts then Some (number_of texts text) else None

-- Returns the result of a lookup: the number of the first text with the given key, if this first text equals the text that is
-- looked up. If the first text with the given key differs, the result of the lookup is the number stored for the text itself.
abbrev pub found_at : List (List ℕ) → Option ℕ → Option ℕ → List ℕ → Option ℕ
found_at texts None other text = None
found_at texts (Some n) other text = if bytes_eq (get_or texts n []) text then Some n else other

-- `IsIndexOf` says that the index is correct: the lookup of each text returns its number, or nothing if the text is not in the list.
pub record IsIndexOf (texts : List (List ℕ)) (first : ℕ → Option ℕ) (other : List ℕ → Option ℕ) : Type 0 where
  -- The number stored for a key is an index into the list of texts.
  pub within : (key : ℕ) → IfSome (first key) (λ n. n < length texts)
  -- Texts whose key an earlier text has are stored apart. A text whose key is not stored is not among the texts stored apart.
  pub apart : (text : List ℕ) → first (key_of text) ≡ None → other text ≡ None
  pub found : (text : List ℕ) → found_at texts (first (key_of text)) (other text) text ≡ number_if texts text
