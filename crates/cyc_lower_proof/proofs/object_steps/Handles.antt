-- This file is about the region handles that are in slots while the values of new objects are evaluated. It treats the words of
-- these handles, and the handles that are still needed when a value is passed to the next evaluation step.
use Rattle.std.proofs.Common.{◌≡◌, ℕ, ◌≤◌, true, List, ◌∷◌, Some, slice_get, sym, ap, subst, ◌∙◌, arith}
use Rattle.cyc_store.specs.declared.range.TheConstants.{HEAP}
use Rattle.cyc_plain.specs.declared.instruction.Operand.{Operand}
use Rattle.cyc_plain.specs.declared.instruction.Operand.TheVariants as operands
use Rattle.cyc_plain.specs.inside.State.{Words}
use Rattle.cyc_plain.specs.inside.Step.{operand_word}
use Rattle.cyc_meaning.specs.State.{Owner, InRegion, Unique, heap_number, BesideHandle, Entry, Needs}
use Rattle.cyc_memory_relation.specs.inside.Tables.{Tables}
use Rattle.cyc_lower_proof.proofs.relation.contents.HeldValues.{Holds, held, height, kept, IsHandleOf, HasHandle}

-- The region handles that are in slots during an evaluation are among all values that the evaluation holds in slots.
pub kept_holds : (t : Tables) (slots : Words) (base : ℕ) (k : List Entry) → Holds t slots base (held k) → Holds t slots base (kept k)
kept_holds t slots base (Needs (BesideHandle region) ∷ k) (is, holds) = kept_holds t slots base k holds
kept_holds t slots base k holds = holds

pub kept_low : (base : ℕ) (k : List Entry) → height base (kept k) ≤ height base (held k)
kept_low base (Needs (BesideHandle region) ∷ k) = omega (arith, kept_low base k)
kept_low base k = omega arith

-- The word of the region handle that an allocation uses.
pub has_handle : (t : Tables) (slots : Words) (base : ℕ) (owner : Owner) (handle : Operand) (k : List Entry) → slice_get t.handles heap_number ≡ Some (Some HEAP)
    → IsHandleOf owner handle (height base (held k)) k → Holds t slots base (held k) → HasHandle t owner (operand_word slots handle)
has_handle t slots base (InRegion region) (operands.Word n) k heap (region_is, word_is) holds =
    subst (λ r. slice_get t.handles r ≡ Some (Some n)) (sym region_is) (heap ∙ ap (λ w. Some (Some w)) (sym word_is))
has_handle t slots base (InRegion region) (operands.Slot n) (Needs (BesideHandle beside) ∷ k) heap (region_is, slot_is) (is, holds) =
    let same : height base (held k) ≡ n = omega (arith, slot_is) in
    subst (λ r. slice_get t.handles r ≡ Some (Some (slots n))) (sym region_is) (is ∙ ap (λ m. Some (Some (slots m))) same)
has_handle t slots base (InRegion region) (operands.Slot n) k heap owned holds = absurd owned
has_handle t slots base (Unique true) (operands.Word n) k heap word_is holds = word_is
has_handle t slots base owner handle k heap owned holds = absurd owned
