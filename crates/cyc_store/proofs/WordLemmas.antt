-- This file is about writing a word of an array of words.
use Rattle.std.proofs.Common.{◌≡◌, ℕ, ◌+◌, ◌-◌, ◌*◌, ◌/◌, ◌%◌, ◌<◌, ◌≤◌, Bool, true, false, List, length, refl, sym, ap, subst, ◌∙◌, inl, inr, arith, get_or-set_same, get_or-set_other}
use Rattle.std.specs.Prelude.{◌==◌, ◌&&◌, nat_le, if◌then◌else◌, slice_index, set}
use Rattle.std.proofs.lemmas.Bool.{cases_eq, leb-true, eqb-true}
use mathlib.Core.Path.{fun_ext}
use Rattle.cyc_words.specs.Word.{IsWord}
use Rattle.cyc_words.proofs.Numbers.{when_equal}
use Rattle.cyc_store.specs.State.{Memory, put, AreWords}
use Rattle.cyc_store.specs.Ledger.{memory_of}
use Rattle.cyc_store.specs.Slots.{place_of}
use Rattle.cyc_store.proofs.LookupLemmas.{when_other}
use Rattle.cyc_store.proofs.KeptLoads.{memory-word, word-place}

-- The memory after a word is written differs only in this word.
pub memory-set : (words : List ℕ) (at word : ℕ) → at < length words → memory_of (set words at word) ≡ put (memory_of words) (place_of at) word
memory-set words at word there = fun_ext (λ x. elim (cases_eq x (place_of at)) [
  | inl here ↦
      memory-word (set words at word) x (ap (λ n. n % 4) here ∙ even at) (subst (λ n. 536870912 ≤ n) (sym here) (low at))
      ∙ (ap (slice_index (set words at word)) (ap (λ n. (n - 536870912) / 4) here ∙ number at)
      ∙ (get_or-set_same words at word 0 there ∙ sym (when_equal x (place_of at) word (memory_of words x) here)))
  | inr other ↦ by x other (x % 4 == 0) (nat_le 536870912 x) refl refl ∙ sym (when_other x (place_of at) word (memory_of words x) other)
])
  where
    even : (n : ℕ) → (536870912 + 4 * n) % 4 ≡ 0
    even n = omega arith

    low : (n : ℕ) → 536870912 ≤ 536870912 + 4 * n
    low n = omega arith

    number : (n : ℕ) → (536870912 + 4 * n - 536870912) / 4 ≡ n
    number n = omega arith

    by : (x : ℕ) → (x ≡ place_of at → ⊥) → (aligned above : Bool) → (x % 4 == 0) ≡ aligned → nat_le 536870912 x ≡ above
        → (if aligned && above then slice_index (set words at word) ((x - 536870912) / 4) else 0) ≡ (if aligned && above then slice_index words ((x - 536870912) / 4) else 0)
    by x other true true even low = get_or-set_other words at ((x - 536870912) / 4) word 0
        (λ e. other (sym (word-place x (eqb-true (x % 4) 0 even) (leb-true 536870912 x low)) ∙ ap place_of e))
    by x other true false even low = refl
    by x other false true even low = refl
    by x other false false even low = refl

-- After a 32-bit word is written, all contents of memory are 32-bit words.
pub words-put : (memory : Memory) (address word : ℕ) → AreWords memory → IsWord word → AreWords (put memory address word)
words-put memory address word words is x = elim (cases_eq x address) [
  | inl here ↦ subst IsWord (sym (when_equal x address word (memory x) here)) is
  | inr other ↦ subst IsWord (sym (when_other x address word (memory x) other)) (words x)
]
