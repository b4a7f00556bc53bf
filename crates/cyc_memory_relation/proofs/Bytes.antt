-- This file is about the bytes of memory and of its words.
use Rattle.std.proofs.Common.{◌≡◌, ℕ, ◌+◌, ◌*◌, ◌/◌, ◌%◌, ◌<◌, refl, sym, ap, subst, ◌∙◌, inl, inr, arith}
use Rattle.std.specs.Prelude.{◌≢◌}
use Rattle.std.proofs.lemmas.Bool.{cases_eq}
use Rattle.cyc_words.specs.Bytes.{byte_in, with_byte, word_of}
use Rattle.cyc_words.proofs.Numbers.{when_equal}
use Rattle.cyc_words.proofs.WordBytesLemmas.{byte-small, byte-same, byte-other, with_byte-word, word-same}
use Rattle.cyc_types.specs.declared.typed.Kind.{Kind}
use Rattle.cyc_types.specs.declared.typed.Kind.TheVariants as kinds
use Rattle.cyc_store.specs.State.{Memory, put, AreWords}
use Rattle.cyc_store.proofs.LookupLemmas.{when_other}
use Rattle.cyc_meaning.specs.Values.{bytes_of_kind}
use Rattle.cyc_memory_relation.specs.inside.Words.{byte_at, IsBeside}

-- A byte of memory at an aligned address plus i is byte i of the word at this address.
pub byte-of_word : (m : Memory) (x i : ℕ) → x % 4 ≡ 0 → i < 4 → byte_at m (x + i) ≡ byte_in (m x) i
byte-of_word m x i even short =
    let word : 4 * ((x + i) / 4) ≡ x = omega (arith, even, short) in
    let place : (x + i) % 4 ≡ i = omega (arith, even, short) in
    ap (λ y. byte_in (m y) ((x + i) % 4)) word ∙ ap (byte_in (m x)) place

-- Two words with equal bytes are equal.
pub word-of_bytes : (m n : Memory) (x : ℕ) → AreWords m → AreWords n → x % 4 ≡ 0 → ((i : ℕ) → i < 4 → byte_at n (x + i) ≡ byte_at m (x + i)) → n x ≡ m x
word-of_bytes m n x old new even same =
    word-same (n x) (m x) (new x) (old x) (λ i short. sym (byte-of_word n x i even short) ∙ (same i short ∙ byte-of_word m x i even short))

-- If two memories have equal words at an address, then they have equal bytes there.
pub byte-of_same : (m n : Memory) (x : ℕ) → n (word_of x) ≡ m (word_of x) → byte_at n x ≡ byte_at m x
byte-of_same m n x same = ap (λ w. byte_in w (x % 4)) same

-- If all words except those of a cell are equal, then all bytes outside the cell are equal.
pub bytes-beside : (m n : Memory) (kind : Kind) (p words : ℕ) → bytes_of_kind kind ≡ 4 * words → p % 4 ≡ 0
    → ((y : ℕ) → ((j : ℕ) → j < words → y ≢ p + 4 * j) → n y ≡ m y) → (x : ℕ) → IsBeside kind p x → byte_at n x ≡ byte_at m x
bytes-beside m n kind p words wide even others x (inl low) = byte-of_same m n x (others (word_of x) (λ j below e. omega (arith, even, low, e)))
bytes-beside m n kind p words wide even others x (inr high) = byte-of_same m n x (others (word_of x) (λ j below e. omega (arith, even, wide, high, below, e)))

-- ---- writing a byte

-- The memory in which the byte at an address is replaced, and the rest of its word is unchanged.
abbrev pub put_byte : Memory → (address byte : ℕ) → Memory
put_byte m x b = put m (word_of x) (with_byte (m (word_of x)) (x % 4) b)

pub put_byte-words : (m : Memory) (x b : ℕ) → AreWords m → b < 256 → AreWords (put_byte m x b)
put_byte-words m x b words small y = elim (cases_eq y (word_of x)) [
  | inl same ↦
      subst (λ w. w < 4294967296)
      (sym (when_equal y (word_of x) (with_byte (m (word_of x)) (x % 4) b) (m y) same))
      (with_byte-word (m (word_of x)) (x % 4) b (words (word_of x)) small)
  | inr other ↦ subst (λ w. w < 4294967296) (sym (when_other y (word_of x) (with_byte (m (word_of x)) (x % 4) b) (m y) other)) (words y)
]

-- A byte that is written to memory is read back.
pub put_byte-same : (m : Memory) (x b : ℕ) → b < 256 → byte_at (put_byte m x b) x ≡ b
put_byte-same m x b small =
    ap (λ w. byte_in w (x % 4)) (when_equal (word_of x) (word_of x) (with_byte (m (word_of x)) (x % 4) b) (m (word_of x)) refl)
    ∙ byte-same (m (word_of x)) (x % 4) b small

-- Writing a byte leaves all other bytes of memory unchanged.
pub put_byte-other : (m : Memory) (x b y : ℕ) → b < 256 → y ≢ x → byte_at (put_byte m x b) y ≡ byte_at m y
put_byte-other m x b y small other = elim (cases_eq (word_of y) (word_of x)) [
  | inl same ↦
      let away : y % 4 ≢ x % 4 = λ place. other (let e : y ≡ x = omega (arith, same, place) in e) in
      ap (λ w. byte_in w (y % 4)) (when_equal (word_of y) (word_of x) (with_byte (m (word_of x)) (x % 4) b) (m (word_of y)) same)
      ∙ (byte-other (m (word_of x)) (x % 4) (y % 4) b (omega arith) (omega arith) away small
      ∙ ap (λ z. byte_in (m z) (y % 4)) (sym same))
  | inr away ↦ byte-of_same m (put_byte m x b) y (when_other (word_of y) (word_of x) (with_byte (m (word_of x)) (x % 4) b) (m (word_of y)) away)
]

pub byte-beside : (m : Memory) (p b : ℕ) → b < 256 → (x : ℕ) → IsBeside kinds.Char p x → byte_at (put_byte m p b) x ≡ byte_at m x
byte-beside m p b small x (inl low) = put_byte-other m p b x small (λ e. omega (arith, low, e))
byte-beside m p b small x (inr high) = put_byte-other m p b x small (λ e. omega (arith, high, e))

-- Every byte of memory is below 256.
pub byte_at-small : (m : Memory) (x : ℕ) → byte_at m x < 256
byte_at-small m x = byte-small (m (word_of x)) (x % 4)
