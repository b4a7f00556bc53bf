-- The bit mask of copies contains each slot that is known to equal another slot.
use Rattle.std.proofs.Common.{◌≡◌, ℕ, ◌-◌, ◌^◌, ◌%◌, ◌<◌, true, false, List, [], ◌∷◌, drop, length, Some, None, refl, ap, ◌∙◌, arith}
use Rattle.std.specs.Prelude.{◌==◌, ◌&&◌, bit_and, bit_or, if◌then◌else◌, nat_lt, unwrap_or}
use Rattle.std.specs.Int.{bit_at}
use Rattle.std.proofs.lemmas.Nat.Bits.{bit_at_ones}
use Rattle.std.proofs.lemmas.Bool.{and_parts, cond_both, eqb-true}
use Rattle.cyc_words.proofs.Lists.{all_append}
use Rattle.cyc_words.proofs.Bits.{apart_bits, bit_left}
use Rattle.cyc_plain.specs.declared.instruction.Operand.TheVariants as operands
use Rattle.cyc_propagation.specs.declared.fact.Fact.{Fact}
use Rattle.cyc_propagation.specs.declared.fact.Fact.TheVariants as facts_are
use Rattle.cyc_propagation.specs.declared.fact.Touched.{Touched}
use Rattle.cyc_propagation.specs.declared.fact.Written.{Written}
use Rattle.cyc_propagation.specs.declared.fact.TheConstants.{MOST_FACTS}
use Rattle.cyc_propagation.specs.inside.Copies.{IsMarked, AreMarked}
use Rattle.cyc_propagation.specs.inside.Facts.{keeps, kept, remembered}
use Rattle.cyc_propagation.specs.inside.Replacement.{simplified_operand}

-- ---- masks of facts

pub all_marked : (facts : List Fact) → AreMarked (2 ^ 64 - 1) facts
all_marked [] = tt
all_marked (fact ∷ facts) = (any fact, all_marked facts)
  where
    below : (slot : ℕ) → slot % 64 < 64
    below slot = omega arith

    any : (fact : Fact) → IsMarked (2 ^ 64 - 1) fact
    any (facts_are.Equal slot (operands.Slot other)) = bit_at_ones 64 (slot % 64) (below slot)
    any (facts_are.Equal slot (operands.Word word)) = tt
    any (facts_are.Computed slot operator left right) = tt
    any (facts_are.Holds comparison left right) = tt
    any (facts_are.Held address offset value) = tt

pub more_stay : (copies bit : ℕ) (fact : Fact) → IsMarked copies fact → IsMarked (bit_or copies bit) fact
more_stay copies bit (facts_are.Equal slot (operands.Slot other)) is = bit_left copies bit (slot % 64) is
more_stay copies bit (facts_are.Equal slot (operands.Word word)) is = tt
more_stay copies bit (facts_are.Computed slot operator left right) is = tt
more_stay copies bit (facts_are.Holds comparison left right) is = tt
more_stay copies bit (facts_are.Held address offset value) is = tt

pub copies_stay : (old new : ℕ) → ((fact : Fact) → IsMarked old fact → IsMarked new fact) → (facts : List Fact) → AreMarked old facts → AreMarked new facts
copies_stay old new stays [] are = tt
copies_stay old new stays (fact ∷ facts) (first, rest) = (stays fact first, copies_stay old new stays facts rest)

pub kept_marked : (copies : ℕ) (w : Written) (t : Touched) (facts : List Fact) → AreMarked copies facts → AreMarked copies (kept w t facts)
kept_marked copies w t [] are = tt
kept_marked copies w t (fact ∷ facts) (first, rest) =
    cond_both (keeps w t fact) (fact ∷ kept w t facts) (kept w t facts) (AreMarked copies)
    (λ is. (first, kept_marked copies w t facts rest)) (λ is. kept_marked copies w t facts rest)

pub remembered_marked : (copies : ℕ) (facts : List Fact) (fact : Fact) → AreMarked copies facts → IsMarked copies fact → AreMarked copies (remembered facts (Some fact))
remembered_marked copies facts fact are is =
    all_append (IsMarked copies) (if nat_lt (length facts) MOST_FACTS then facts else drop 1 facts) (fact ∷ [])
    (cond_both (nat_lt (length facts) MOST_FACTS) facts (drop 1 facts) (AreMarked copies) (λ few. are) (λ many. after_first facts are)) (is, tt)
  where
    after_first : (facts : List Fact) → AreMarked copies facts → AreMarked copies (drop 1 facts)
    after_first [] are = tt
    after_first (other ∷ facts) (first, rest) = rest

-- If a slot is outside the bit mask of copies, no fact says that the slot equals another operand.
pub no_copy : (copies bit slot : ℕ) → bit_and copies bit ≡ 0 → bit_at bit (slot % 64) ≡ 1 → (facts : List Fact) → AreMarked copies facts
    → simplified_operand facts (operands.Slot slot) ≡ operands.Slot slot
no_copy copies bit slot none its [] are = refl
no_copy copies bit slot none its (facts_are.Equal number (operands.Word word) ∷ facts) (first, rest) =
    cond_both (slot == number && false) (Some (operands.Word word)) None (λ o. unwrap_or o (simplified_operand facts (operands.Slot slot)) ≡ operands.Slot slot)
    (λ is. absurd (let e : false ≡ true = (and_parts (slot == number) false is).1 in cc)) (λ is. no_copy copies bit slot none its facts rest)
no_copy copies bit slot none its (facts_are.Equal number (operands.Slot other) ∷ facts) (first, rest) =
    cond_both (slot == number && true) (Some (operands.Slot other)) None (λ o. unwrap_or o (simplified_operand facts (operands.Slot slot)) ≡ operands.Slot slot)
    (λ is.
    let same : slot ≡ number = eqb-true slot number (and_parts (slot == number) true is).0 in
    absurd (apart_bits copies bit (slot % 64) none its (ap (λ (n : ℕ). bit_at copies (n % 64)) same ∙ first)))
    (λ is. no_copy copies bit slot none its facts rest)
no_copy copies bit slot none its (facts_are.Computed number operator left right ∷ facts) (first, rest) = no_copy copies bit slot none its facts rest
no_copy copies bit slot none its (facts_are.Holds comparison left right ∷ facts) (first, rest) = no_copy copies bit slot none its facts rest
no_copy copies bit slot none its (facts_are.Held address offset value ∷ facts) (first, rest) = no_copy copies bit slot none its facts rest
