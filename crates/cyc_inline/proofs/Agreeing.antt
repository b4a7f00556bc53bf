-- Lemmas about two maps from slots to machine words that hold equal words; in one map the slot numbers may be shifted.
use Rattle.std.proofs.Common.{◌≡◌, ℕ, ◌+◌, ◌<◌, ◌≤◌, refl, sym, ap, ◌∙◌, arith, inl, inr}
use Rattle.std.specs.Prelude.{◌==◌, ◌&&◌, ◌-◌}
use Rattle.std.proofs.lemmas.Bool.{cases_lt, cases_eq}
use Rattle.cyc_plain.specs.declared.instruction.Operand.{Operand}
use Rattle.cyc_plain.specs.declared.instruction.Operand.TheVariants as operands
use Rattle.cyc_plain.specs.declared.limits.TheConstants.{RECORD_WORDS}
use Rattle.cyc_plain.specs.inside.Program.{Routine}
use Rattle.cyc_plain.specs.inside.State.{Words, put, copied}
use Rattle.cyc_plain.specs.inside.Step.{operand_word, is_intact}
use Rattle.cyc_plain.specs.inside.WellFormed.{IsOperand}
use Rattle.cyc_plain.proofs.SlotLaws.{put-same, put-other, copied-inside, copied-below, copied-above}
use Rattle.cyc_inline.specs.inside.Opened.{shifted_operand}

-- Says that the first `count` slots hold equal machine words in the two slot maps.
abbrev pub Agree : (count : ℕ) → Words → Words → Type 0
Agree count a b = (k : ℕ) → k < count → b k ≡ a k

-- The slot map restricted to the slots from number `shift` on, which are renumbered from 0.
abbrev pub from_slot : (shift : ℕ) → Words → Words
from_slot shift words = λ (k : ℕ). words (shift + k)

-- If a slot map is shifted by 0, it holds the same words in the same slots as before.
pub agree_here : (count : ℕ) (a b : Words) → Agree count a (from_slot 0 b) → Agree count a b
agree_here count a b agree k below = ap b (let e : k ≡ 0 + k = omega arith in e) ∙ agree k below

pub agree_from : (count : ℕ) (a b : Words) → Agree count a b → Agree count a (from_slot 0 b)
agree_from count a b agree k below = ap b (let e : 0 + k ≡ k = omega arith in e) ∙ agree k below

-- If two slot maps hold equal words, they still do after the same word is written to the same slot
-- of both (up to the shift of slot numbers).
pub put_at : (a b : Words) (number other word same k at : ℕ) (shift : ℕ) → other ≡ shift + number → at ≡ shift + k → same ≡ word → b at ≡ a k → put b other same at ≡ put a number word k
put_at a b number other word same k at shift there here is agree = elim (cases_eq k number) [
  | inl equal ↦
      ap (put b other same) (let e : at ≡ other = omega (arith, there, here, equal) in e)
      ∙ (put-same b other same ∙ (is ∙ (sym (put-same a number word) ∙ ap (put a number word) (sym equal))))
  | inr apart ↦
      put-other b other at same (λ e. apart (omega (arith, e, there, here)))
      ∙ (agree ∙ sym (put-other a number k word apart))
]

pub put_agree : (count number word : ℕ) (a b : Words) → Agree count a b → Agree count (put a number word) (put b number word)
put_agree count number word a b agree k below = put_at a b number number word word k k 0 (omega arith) (omega arith) refl (agree k below)

pub put_shifted : (count shift number word same : ℕ) (a b : Words) → same ≡ word → Agree count a (from_slot shift b) → Agree count (put a number word) (from_slot shift (put b (shift + number) same))
put_shifted count shift number word same a b is agree k below = put_at a b number (shift + number) word same k (shift + k) shift refl refl is (agree k below)

-- If two slot maps hold equal words, they still do after equal words are copied within both (up to the shift of slot numbers).
pub copied_at : (a b to onto : Words) (source from count destination other k at shift : ℕ) → other ≡ shift + destination → at ≡ shift + k
    → ((j : ℕ) → j < count → b (from + j) ≡ a (source + j)) → onto at ≡ to k → copied b from count onto other at ≡ copied a source count to destination k
copied_at a b to onto source from count destination other k at shift there here same agree = elim (cases_lt k destination) [
  | inl before ↦
      copied-below b onto from count other at (omega (arith, there, here, before))
      ∙ (agree ∙ sym (copied-below a to source count destination k before))
  | inr since ↦ elim (cases_lt k (destination + count)) [
    | inl inside ↦
        let j : ℕ = k - destination in
        let below : k - destination < count = omega (arith, since, inside) in
        let above_is : k ≡ destination + (k - destination) = omega (arith, since) in
        let below_is : at ≡ other + (k - destination) = omega (arith, since, there, here) in
        ap (copied b from count onto other) below_is
        ∙ (copied-inside b onto from count other j below
        ∙ (same j below
        ∙ (sym (copied-inside a to source count destination j below) ∙ ap (copied a source count to destination) (sym above_is))))
    | inr past ↦
        copied-above b onto from count other at (omega (arith, there, here, past))
        ∙ (agree ∙ sym (copied-above a to source count destination k past))
  ]
]

pub intact_agree : (count first : ℕ) (contents a b : Words) → Agree count a b → first + RECORD_WORDS ≤ count → is_intact b first contents ≡ is_intact a first contents
intact_agree count first contents a b agree room =
    let e0 = agree first (omega (arith, room)) in
    let e1 = agree (first + 1) (omega (arith, room)) in
    let e2 = agree (first + 2) (omega (arith, room)) in
    let e3 = agree (first + 3) (omega (arith, room)) in
    ap (λ (x : ℕ). x == contents 0 && (b (first + 1) == contents 1 && (b (first + 2) == contents 2 && b (first + 3) == contents 3))) e0
    ∙ ap (λ (x : ℕ). a first == contents 0 && (x == contents 1 && (b (first + 2) == contents 2 && b (first + 3) == contents 3))) e1
    ∙ ap (λ (x : ℕ). a first == contents 0 && (a (first + 1) == contents 1 && (x == contents 2 && b (first + 3) == contents 3))) e2
    ∙ ap (λ (x : ℕ). a first == contents 0 && (a (first + 1) == contents 1 && (a (first + 2) == contents 2 && x == contents 3))) e3

-- A slot operand, shifted for the inlined program, denotes the same word in both slot maps.
pub operand_agree : (r : Routine) (shift : ℕ) (a b : Words) (operand : Operand) → Agree r.slots a (from_slot shift b) → IsOperand r operand → operand_word b (shifted_operand shift operand) ≡ operand_word a operand
operand_agree r shift a b (operands.Slot number) agree inside = agree number inside
operand_agree r shift a b (operands.Word word) agree inside = refl
