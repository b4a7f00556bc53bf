-- This file is about values and the machine words that represent them, and about cells and their bytes. It proves that words and bytes
-- still represent their values when the tables of objects and regions grow. This file also has facts about equal words and equal bytes.
use Rattle.std.proofs.Common.{◌≡◌, ℕ, ◌+◌, ◌*◌, ◌%◌, ◌<◌, ◌≤◌, true, false, List, [], ◌∷◌, Option, None, Some, sym, ap, subst, ◌∙◌, arith, add-zero}
use Rattle.cyc_words.proofs.Items.{slice_get_front}
use Rattle.cyc_types.specs.declared.typed.Kind.{Kind}
use Rattle.cyc_types.specs.declared.typed.Kind.TheVariants as kinds
use Rattle.cyc_store.specs.State.{Memory, AreWords}
use Rattle.cyc_meaning.specs.Values.{Value, Int, Null, Thin, Fat, Handle, Key, is_kind, words_of_kind, bytes_of_kind, begins, following, bytes_from, Cell, kinds_of}
use Rattle.cyc_memory_relation.specs.inside.Tables.{Row, Placed, Tables, with_row, with_handle, Grows}
use Rattle.cyc_memory_relation.specs.inside.Related.{IsVariableAt}
use Rattle.cyc_memory_relation.specs.inside.Words.{byte_at, words_from, Points, IsPartOf, Is, Holds, IsContent, AreCells, AreBlank}
use Rattle.cyc_memory_relation.proofs.Bytes.{word-of_bytes}
use Rattle.cyc_memory_relation.proofs.Places.{IsAligned, begins-least, begins-aligned, bytes-least}

-- ---- growth of the tables

pub Grows-same : (t : Tables) → Grows t t
Grows-same t = record { rows = λ o row found. found; handles = λ n h found. found }

pub Grows-row : (t : Tables) (row : Row) → Grows t (with_row t row)
Grows-row t row = record { rows = λ o r found. slice_get_front t.rows (row ∷ []) o r found; handles = λ n h found. found }

pub Grows-handle : (t : Tables) (handle : Option ℕ) → Grows t (with_handle t handle)
Grows-handle t handle = record { rows = λ o r found. found; handles = λ n h found. slice_get_front t.handles (handle ∷ []) n h found }

module _ {t u : Tables} (grows : Grows t u) where
  pub variable-grows : (o : ℕ) → IsVariableAt t o → IsVariableAt u o
  variable-grows o (row, at, outside) = (row, grows.rows o row at, outside)

  pub Points-grows : {o k w : ℕ} → Points t o k w → Points u o k w
  Points-grows {o} p = record {
    address = p.address;
    kinds = p.kinds;
    row = grows.rows o (Placed p.address p.kinds) p.row;
    range = p.range;
    inside = p.inside;
    at = p.at;
  }

  pub IsPartOf-grows : {o start count w : ℕ} → IsPartOf t o start count w → IsPartOf u o start count w
  IsPartOf-grows {o} p = record {
    address = p.address;
    kinds = p.kinds;
    row = grows.rows o (Placed p.address p.kinds) p.row;
    range = p.range;
    kind = p.kind;
    even = p.even;
    inside = p.inside;
    at = p.at;
  }

  pub Is-grows : (kind : Kind) (v : Value) (m : ℕ → ℕ) (p : ℕ) → Is t kind v m p → Is u kind v m p
  Is-grows kinds.Int (Int word) m p is = is
  Is-grows kinds.Char (Int word) m p is = is
  Is-grows kinds.Nullable Null m p is = is
  Is-grows kinds.Nullable (Thin o k) m p is = Points-grows is
  Is-grows kinds.NonNull (Thin o k) m p is = Points-grows is
  Is-grows kinds.Fat Null m p is = is
  Is-grows kinds.Fat (Fat o start count index) m p is = (IsPartOf-grows is.0, is.1, is.2)
  Is-grows kinds.Handle (Handle region) m p is = grows.handles region (Some (m p)) is
  Is-grows kinds.Key (Key region) m p is = grows.handles region (Some (m p)) is
  Is-grows kind v m p is = absurd is

  pub Holds-grows : (kind : Kind) (v : Value) (m : Memory) (a : ℕ) → Holds t kind v m a → Holds u kind v m a
  Holds-grows kinds.Int v m a is = Is-grows kinds.Int v (words_from m a) 0 is
  Holds-grows kinds.Char (Int byte) m a is = is
  Holds-grows kinds.Char v m a is = absurd is
  Holds-grows kinds.Nullable v m a is = Is-grows kinds.Nullable v (words_from m a) 0 is
  Holds-grows kinds.NonNull v m a is = Is-grows kinds.NonNull v (words_from m a) 0 is
  Holds-grows kinds.Fat v m a is = Is-grows kinds.Fat v (words_from m a) 0 is
  Holds-grows kinds.Handle v m a is = Is-grows kinds.Handle v (words_from m a) 0 is
  Holds-grows kinds.Key v m a is = Is-grows kinds.Key v (words_from m a) 0 is

  pub IsContent-grows : (kind : Kind) (content : Option Value) (m : Memory) (a : ℕ) → IsContent t kind content m a → IsContent u kind content m a
  IsContent-grows kind None m a is = tt
  IsContent-grows kind (Some v) m a is = Holds-grows kind v m a is

  pub AreCells-grows : (cells : List Cell) (m : Memory) (a at : ℕ) → AreCells t cells m a at → AreCells u cells m a at
  AreCells-grows [] m a at are = tt
  AreCells-grows (c ∷ cells) m a at are =
      (IsContent-grows c.kind c.content m (a + begins c.kind at) are.0, AreCells-grows cells m a (following c.kind at) are.1)

-- ---- equal words elsewhere

module _ (t : Tables) where
  Points-same : {o k v w : ℕ} → v ≡ w → Points t o k w → Points t o k v
  Points-same {o} {k} e p = subst (Points t o k) (sym e) p

  first-same : (words : ℕ) (m n : ℕ → ℕ) (p q : ℕ) → 0 < words → ((j : ℕ) → j < words → n (q + j) ≡ m (p + j)) → n q ≡ m p
  first-same words m n p q some same = ap n (sym (add-zero q)) ∙ (same 0 some ∙ ap m (add-zero p))

  -- Words that are equal to the words of a value represent this value.
  pub Is-same : (kind : Kind) (v : Value) (m n : ℕ → ℕ) (p q : ℕ) → ((j : ℕ) → j < words_of_kind kind → n (q + j) ≡ m (p + j))
      → Is t kind v m p → Is t kind v n q
  Is-same kinds.Int (Int word) m n p q same is = first-same 1 m n p q (omega arith) same ∙ is
  Is-same kinds.Char (Int word) m n p q same is = (first-same 1 m n p q (omega arith) same ∙ is.0, is.1)
  Is-same kinds.Nullable Null m n p q same is = first-same 1 m n p q (omega arith) same ∙ is
  Is-same kinds.Nullable (Thin o k) m n p q same is = Points-same (first-same 1 m n p q (omega arith) same) is
  Is-same kinds.NonNull (Thin o k) m n p q same is = Points-same (first-same 1 m n p q (omega arith) same) is
  Is-same kinds.Fat Null m n p q same is = (first-same 3 m n p q (omega arith) same ∙ is.0, same 1 (omega arith) ∙ is.1)
  Is-same kinds.Fat (Fat o start count index) m n p q same is = (
    subst (IsPartOf t o start count) (sym (first-same 3 m n p q (omega arith) same)) is.0,
    same 1 (omega arith) ∙ is.1,
    same 2 (omega arith) ∙ is.2,
  )
  Is-same kinds.Handle (Handle region) m n p q same is = is ∙ ap (λ w. Some (Some w)) (sym (first-same 1 m n p q (omega arith) same))
  Is-same kinds.Key (Key region) m n p q same is = is ∙ ap (λ w. Some (Some w)) (sym (first-same 1 m n p q (omega arith) same))
  Is-same kind v m n p q same is = absurd is

-- ---- equal bytes

-- The words of an aligned cell are equal in two memories if the bytes of the cell are equal.
words-at-same : (words : ℕ) (m n : Memory) (a : ℕ) → AreWords m → AreWords n → a % 4 ≡ 0
    → ((x : ℕ) → a ≤ x → x < a + 4 * words → byte_at n x ≡ byte_at m x) → (j : ℕ) → j < words → n (a + 4 * (0 + j)) ≡ m (a + 4 * (0 + j))
words-at-same words m n a old new even same j below =
    word-of_bytes m n (a + 4 * (0 + j)) old new (omega (arith, even))
    (λ i short. same (a + 4 * (0 + j) + i) (omega arith) (omega (arith, below, short)))

module _ (t : Tables) where
  -- If the representation kind of a cell is not char, then the cell contains a value exactly if its words represent the value.
  pub Holds-words : (kind : Kind) (v : Value) (m : Memory) (a : ℕ) → is_kind kind kinds.Char ≡ false → Holds t kind v m a → Is t kind v (words_from m a) 0
  Holds-words kinds.Int v m a wide is = is
  Holds-words kinds.Char v m a wide is = absurd (let e : true ≡ false = wide in cc)
  Holds-words kinds.Nullable v m a wide is = is
  Holds-words kinds.NonNull v m a wide is = is
  Holds-words kinds.Fat v m a wide is = is
  Holds-words kinds.Handle v m a wide is = is
  Holds-words kinds.Key v m a wide is = is

  pub Holds-of_words : (kind : Kind) (v : Value) (m : Memory) (a : ℕ) → is_kind kind kinds.Char ≡ false → Is t kind v (words_from m a) 0 → Holds t kind v m a
  Holds-of_words kinds.Int v m a wide is = is
  Holds-of_words kinds.Char v m a wide is = absurd (let e : true ≡ false = wide in cc)
  Holds-of_words kinds.Nullable v m a wide is = is
  Holds-of_words kinds.NonNull v m a wide is = is
  Holds-of_words kinds.Fat v m a wide is = is
  Holds-of_words kinds.Handle v m a wide is = is
  Holds-of_words kinds.Key v m a wide is = is

  pub Holds-same : (kind : Kind) (v : Value) (m n : Memory) (a : ℕ) → AreWords m → AreWords n → IsAligned kind a
      → ((x : ℕ) → a ≤ x → x < a + bytes_of_kind kind → byte_at n x ≡ byte_at m x) → Holds t kind v m a → Holds t kind v n a
  Holds-same kinds.Int v m n a old new even same is =
      Is-same t kinds.Int v (words_from m a) (words_from n a) 0 0 (words-at-same 1 m n a old new even same) is
  Holds-same kinds.Char (Int byte) m n a old new even same is = same a (omega arith) (omega arith) ∙ is
  Holds-same kinds.Char v m n a old new even same is = absurd is
  Holds-same kinds.Nullable v m n a old new even same is =
      Is-same t kinds.Nullable v (words_from m a) (words_from n a) 0 0 (words-at-same 1 m n a old new even same) is
  Holds-same kinds.NonNull v m n a old new even same is =
      Is-same t kinds.NonNull v (words_from m a) (words_from n a) 0 0 (words-at-same 1 m n a old new even same) is
  Holds-same kinds.Fat v m n a old new even same is =
      Is-same t kinds.Fat v (words_from m a) (words_from n a) 0 0 (words-at-same 3 m n a old new even same) is
  Holds-same kinds.Handle v m n a old new even same is =
      Is-same t kinds.Handle v (words_from m a) (words_from n a) 0 0 (words-at-same 1 m n a old new even same) is
  Holds-same kinds.Key v m n a old new even same is =
      Is-same t kinds.Key v (words_from m a) (words_from n a) 0 0 (words-at-same 1 m n a old new even same) is

  pub IsContent-same : (kind : Kind) (content : Option Value) (m n : Memory) (a : ℕ) → AreWords m → AreWords n → IsAligned kind a
      → ((x : ℕ) → a ≤ x → x < a + bytes_of_kind kind → byte_at n x ≡ byte_at m x) → IsContent t kind content m a → IsContent t kind content n a
  IsContent-same kind None m n a old new even same is = tt
  IsContent-same kind (Some v) m n a old new even same is = Holds-same kind v m n a old new even same is

  pub AreCells-same : (cells : List Cell) (m n : Memory) (a at : ℕ) → a % 4 ≡ 0 → AreWords m → AreWords n
      → ((x : ℕ) → a + at ≤ x → x < a + bytes_from at (kinds_of cells) → byte_at n x ≡ byte_at m x) → AreCells t cells m a at → AreCells t cells n a at
  AreCells-same [] m n a at even old new same are = tt
  AreCells-same (c ∷ cells) m n a at even old new same are = (
    IsContent-same c.kind c.content m n (a + begins c.kind at) old new (begins-aligned c.kind a at even)
        (λ x least less.
        same x (omega (arith, least, begins-least c.kind at)) (omega (arith, less, bytes-least (following c.kind at) (kinds_of cells))))
        are.0,
    AreCells-same cells m n a (following c.kind at) even old new (λ x least less. same x (omega (arith, least, begins-least c.kind at)) less) are.1,
  )

  -- cells without values may contain any bytes
  pub AreCells-blank : (cells : List Cell) (m : Memory) (a at : ℕ) → AreBlank cells → AreCells t cells m a at
  AreCells-blank [] m a at blank = tt
  AreCells-blank (c ∷ cells) m a at blank = (
    subst (λ (o : Option Value). IsContent t c.kind o m (a + begins c.kind at)) (sym blank.0) tt,
    AreCells-blank cells m a (following c.kind at) blank.1,
  )

-- every value has at least one word
pub kind-some : (kind : Kind) → 0 < words_of_kind kind
kind-some kinds.Int = omega arith
kind-some kinds.Char = omega arith
kind-some kinds.Nullable = omega arith
kind-some kinds.NonNull = omega arith
kind-some kinds.Fat = omega arith
kind-some kinds.Handle = omega arith
kind-some kinds.Key = omega arith
