-- This file is about chars: a char is a word in a slot, and a byte in a cell. A char variable is the last byte of its word, which is below
-- 256, so the word and the byte are the same value.
use Rattle.std.proofs.Common.{◌≡◌, ℕ, ◌+◌, ◌*◌, ◌/◌, ◌%◌, ◌<◌, true, false, refl, sym, ap, subst, ◌∙◌, arith}
use Rattle.cyc_words.specs.Bytes.{byte_in, with_byte, word_of}
use Rattle.cyc_types.specs.declared.typed.Kind.{Kind}
use Rattle.cyc_types.specs.declared.typed.Kind.TheVariants as kinds
use Rattle.cyc_store.specs.State.{Memory}
use Rattle.cyc_meaning.specs.Values.{Value, Int, is_kind, words_of_kind, bytes_of_kind}
use Rattle.cyc_meaning.specs.Operators.{Gives}
use Rattle.cyc_meaning.specs.Conversion.{conversion}
use Rattle.cyc_memory_relation.specs.inside.Tables.{Tables}
use Rattle.cyc_memory_relation.specs.inside.Words.{byte_at, Is, Holds}
use Rattle.cyc_memory_relation.proofs.Bytes.{put_byte, put_byte-same, byte_at-small}
use Rattle.cyc_memory_relation.proofs.Places.{IsAligned}
use Rattle.cyc_memory_relation.proofs.Pointers.{same_value}

-- ---- kinds

pub char-kind : (kind : Kind) → is_kind kind kinds.Char ≡ true → kind ≡ kinds.Char
char-kind kinds.Char same = refl
char-kind kind same = absurd (let e : false ≡ true = same in cc)

-- Cells of all representation kinds except char consist of whole words and are aligned.
pub wide-bytes : (kind : Kind) → is_kind kind kinds.Char ≡ false → bytes_of_kind kind ≡ 4 * words_of_kind kind
wide-bytes kinds.Char wide = absurd (let e : true ≡ false = wide in cc)
wide-bytes kind wide = refl

pub wide-aligned : (kind : Kind) (address : ℕ) → is_kind kind kinds.Char ≡ false → IsAligned kind address → address % 4 ≡ 0
wide-aligned kinds.Char address wide there = absurd (let e : true ≡ false = wide in cc)
wide-aligned kind address wide there = there

module _ (t : Tables) where
  -- ---- words

  -- The word of a char is below 256.
  pub char-small : (v : Value) (m : ℕ → ℕ) (p : ℕ) → Is t kinds.Char v m p → m p < 256
  char-small (Int word) m p is = subst (λ w. w < 256) (sym is.0) is.1
  char-small v m p is = absurd is

  -- ---- conversions

  -- converting an int to a char keeps only its low byte
  pub char-converted : (v u : Value) (m n : ℕ → ℕ) (p q : ℕ) → Is t kinds.Int v m p → conversion kinds.Char v ≡ Gives u → n q ≡ m p % 256
      → Is t kinds.Char u n q
  char-converted (Int word) u m n p q is gives same =
      subst (λ x. Is t kinds.Char x n q) (same_value gives) (same ∙ ap (λ w. w % 256) is, (let e : word % 256 < 256 = omega arith in e))
  char-converted v u m n p q is gives same = absurd is

  -- converting a char to a char keeps its value
  pub char-kept : (v u : Value) (m n : ℕ → ℕ) (p q : ℕ) → Is t kinds.Char v m p → conversion kinds.Char v ≡ Gives u → n q ≡ m p → Is t kinds.Char u n q
  char-kept (Int word) u m n p q is gives same =
      let small : word < 256 = is.1 in
      let e : word ≡ word % 256 = omega (arith, small) in
      subst (λ x. Is t kinds.Char x n q) (same_value gives) (same ∙ (is.0 ∙ e), (let e : word % 256 < 256 = omega arith in e))
  char-kept v u m n p q is gives same = absurd is

  -- converting a char to an int keeps its word
  pub char-to_int : (v u : Value) (m n : ℕ → ℕ) (p q : ℕ) → Is t kinds.Char v m p → conversion kinds.Int v ≡ Gives u → n q ≡ m p → Is t kinds.Int u n q
  char-to_int (Int word) u m n p q is gives same = subst (λ x. Is t kinds.Int x n q) (same_value gives) (same ∙ is.0)
  char-to_int v u m n p q is gives same = absurd is

  -- ---- cells

  -- The byte that is loaded from a cell of type char is the word of the char's value.
  pub char-loaded : (v : Value) (m : Memory) (a : ℕ) → Holds t kinds.Char v m a → Is t kinds.Char v (λ j. byte_at m a) 0
  char-loaded (Int byte) m a is = (is, subst (λ w. w < 256) is (byte_at-small m a))
  char-loaded v m a is = absurd is

  -- Storing the word of a char as a byte makes the char the value stored in the cell.
  pub char-stored : (v : Value) (words : ℕ → ℕ) (p : ℕ) (m : Memory) (a : ℕ) → Is t kinds.Char v words p → Holds t kinds.Char v (put_byte m a (words p)) a
  char-stored (Int byte) words p m a is = put_byte-same m a (words p) (subst (λ w. w < 256) (sym is.0) is.1) ∙ is.0
  char-stored v words p m a is = absurd is

-- ---- variables

-- The address of a char variable is the address of the last byte of its word.
pub last-word : (x : ℕ) → x % 4 ≡ 0 → word_of (x + 3) ≡ x
last-word x even = let e : 4 * ((x + 3) / 4) ≡ x = omega (arith, even) in e

-- Loading the last byte of a word below 256 yields the word.
pub last-loaded : (word : ℕ) → word < 256 → byte_in word 3 ≡ word
last-loaded word small = let e : word % 256 ≡ word = omega (arith, small) in e

-- Storing a byte in the last byte of a word below 256 yields the byte as the new word.
pub last-stored : (old byte : ℕ) → old < 256 → with_byte old 3 byte ≡ byte
last-stored old byte small = let e : old / 256 * 256 + byte ≡ byte = omega (arith, small) in e
