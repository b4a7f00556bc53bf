-- The table of the slots that instructions read and write is built one instruction after the other.
use Rattle.std.proofs.Common.{◌≡◌, ℕ, ◌+◌, ◌<◌, List, [], ◌∷◌, ◌++◌, Some, length, length-append, sym, ap, ◌∙◌, arith, inl, inr}
use Rattle.std.specs.Prelude.{slice_get}
use Rattle.std.proofs.lemmas.Bool.{cases_eq}
use Rattle.cyc_plain.specs.declared.instruction.Instruction.{Instruction}
use Rattle.cyc_plain.specs.inside.Program.{Routine, Program}
use Rattle.cyc_plain.specs.inside.Uses.{At}
use Rattle.cyc_registers.specs.declared.uses.Uses.{Uses}
use Rattle.cyc_registers.specs.inside.Masks.{uses_of}
use Rattle.cyc_words.proofs.Lists.{slice_get_last, slice_get_before}

-- Says that the table of read and written slots is right for the first `count` instructions.
abbrev pub AreFirstUses : Program → Routine → (masks : List ℕ) → (count : ℕ) → List Uses → Type 0
AreFirstUses program r masks count table =
    (length table ≡ count)
    × ((index : ℕ) (i : Instruction) → At r index i → index < count → slice_get table index ≡ Some (uses_of program r.results masks i))

pub more_uses : (program : Program) (r : Routine) (masks : List ℕ) (count : ℕ) (table : List Uses) (last : Instruction)
    → AreFirstUses program r masks count table → At r count last
    → AreFirstUses program r masks (count + 1) (table ++ uses_of program r.results masks last ∷ [])
more_uses program r masks count table last (many, so_far) at_last = (omega (arith, many, length-append table (uses_of program r.results masks last ∷ [])), each)
  where
    each : (index : ℕ) (i : Instruction) → At r index i → index < count + 1
        → slice_get (table ++ uses_of program r.results masks last ∷ []) index ≡ Some (uses_of program r.results masks i)
    each index i at below = elim (cases_eq index count) [
      | inl same ↦
          let its : last ≡ i = (let e : Some last ≡ Some i = sym at_last ∙ (ap (slice_get r.code) (sym same) ∙ at) in cc) in
          ap (slice_get (table ++ uses_of program r.results masks last ∷ [])) (same ∙ sym many)
          ∙ (slice_get_last table (uses_of program r.results masks last) ∙ ap (λ (j : Instruction). Some (uses_of program r.results masks j)) its)
      | inr other ↦
          slice_get_before table (uses_of program r.results masks last) index (omega (arith, below, other, many)) ∙ so_far index i at (omega (arith, below, other))
    ]
