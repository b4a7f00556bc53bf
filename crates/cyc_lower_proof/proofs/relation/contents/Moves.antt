-- This file is about the words in slots after a value has been moved.
use Rattle.std.proofs.Common.{◌≡◌, ℕ, ◌+◌, ◌<◌, ◌≤◌, Bool, true, false, refl, ap, ◌∙◌, arith, inl, inr}
use Rattle.std.proofs.lemmas.Bool.{eqb-true}
use Rattle.std.specs.Prelude.{◌==◌, if◌then◌else◌}
use Rattle.cyc_plain.specs.declared.instruction.Operand.{Operand}
use Rattle.cyc_plain.specs.declared.instruction.Operand.TheVariants as operands
use Rattle.cyc_plain.specs.declared.instruction.Instruction.TheVariants as instructions
use Rattle.cyc_plain.specs.inside.Program.{Program}
use Rattle.cyc_plain.specs.inside.State.{Words, put, copied, Configuration, Running}
use Rattle.cyc_plain.specs.inside.Step.{Choice, with_slots, advanced, performed}
use Rattle.cyc_plain.proofs.SlotLaws.{put-same, put-other, copied-inside, copied-below, copied-above}
use Rattle.cyc_meaning.specs.Values.{Operand as Kinded, words_of_kind}
use Rattle.cyc_lower_proof.specs.inside.ValueCode.{move_of}
use Rattle.cyc_lower_proof.proofs.slots.Widths.{Outside}
use Rattle.cyc_memory_relation.specs.inside.Tables.{Tables}
use Rattle.cyc_memory_relation.specs.inside.Words.{Is}
use Rattle.cyc_lower_proof.proofs.relation.contents.HeldValues.{IsIn}
use Rattle.cyc_lower_proof.proofs.relation.contents.Data.{IsWord-is, Is-same}

abbrev pub moved_slots : Words → (words d : ℕ) → Operand → Words
moved_slots slots words d (operands.Slot n) = if words == 1 then put slots d (slots n) else copied slots n words slots d
moved_slots slots words d (operands.Word n) = put slots d n

pub moves : (program : Program) (choice : Choice) (c : Configuration) (words d : ℕ) (o : Operand)
    → performed program choice c (move_of words d o) ≡ Running (advanced (with_slots c (moved_slots c.active.slots words d o)))
moves program choice c words d (operands.Word n) = refl
moves program choice c words d (operands.Slot n) = by (words == 1)
  where
    by : (one : Bool) → performed program choice c (if one then instructions.Move d (operands.Slot n) else instructions.MoveWords d n words)
        ≡ Running (advanced (with_slots c (if one then put c.active.slots d (c.active.slots n) else copied c.active.slots n words c.active.slots d)))
    by true = refl
    by false = refl

-- A slot outside the written slots keeps its word.
pub put_elsewhere : (slots : Words) (d w many m : ℕ) → 1 ≤ many → Outside d many m → put slots d w m ≡ slots m
put_elsewhere slots d w many m some (inl below) = put-other slots d m w (λ same. absurd (omega (arith, same, below)))
put_elsewhere slots d w many m some (inr above) = put-other slots d m w (λ same. absurd (omega (arith, same, above, some)))

pub copied_elsewhere : (from to : Words) (source many d m : ℕ) → Outside d many m → copied from source many to d m ≡ to m
copied_elsewhere from to source many d m (inl below) = copied-below from to source many d m below
copied_elsewhere from to source many d m (inr above) = copied-above from to source many d m above

pub moved_elsewhere : (slots : Words) (words d : ℕ) (o : Operand) (m : ℕ) → 1 ≤ words → Outside d words m → moved_slots slots words d o m ≡ slots m
moved_elsewhere slots words d (operands.Word n) m some out = put_elsewhere slots d n words m some out
moved_elsewhere slots words d (operands.Slot n) m some out = by (words == 1)
  where
    by : (one : Bool) → (if one then put slots d (slots n) else copied slots n words slots d) m ≡ slots m
    by true = put_elsewhere slots d (slots n) words m some out
    by false = copied_elsewhere slots slots n words d m out

-- Copied words represent the value that the original words represent.
pub copied_is : (t : Tables) (v : Kinded) (from to : Words) (source many d : ℕ) → words_of_kind v.kind ≤ many → Is t v.kind v.value from source → Is t v.kind v.value (copied from source many to d) d
copied_is t v from to source many d few is =
    Is-same t v.kind v.value from (copied from source many to d) source d (λ i below. copied-inside from to source many d i (omega (arith, below, few))) is

pub moved_is : (t : Tables) (v : Kinded) (slots : Words) (d : ℕ) (o : Operand) → IsIn t v slots o → Is t v.kind v.value (moved_slots slots (words_of_kind v.kind) d o) d
moved_is t v slots d (operands.Word n) is = IsWord-is t v.kind v.value n (put slots d n) d (put-same slots d n) is
moved_is t v slots d (operands.Slot n) is = by (words_of_kind v.kind == 1) refl
  where
    one : (b : Bool) → (words_of_kind v.kind == 1) ≡ b → b ≡ true → (i : ℕ) → i < words_of_kind v.kind → put slots d (slots n) (d + i) ≡ slots (n + i)
    one b reported is_one i below =
        let single : words_of_kind v.kind ≡ 1 = eqb-true (words_of_kind v.kind) 1 (reported ∙ is_one) in
        let at_d : d + i ≡ d = omega (arith, below, single) in
        let at_n : n ≡ n + i = omega (arith, below, single) in
        ap (put slots d (slots n)) at_d ∙ put-same slots d (slots n) ∙ ap slots at_n

    by : (b : Bool) → (words_of_kind v.kind == 1) ≡ b → Is t v.kind v.value (if b then put slots d (slots n) else copied slots n (words_of_kind v.kind) slots d) d
    by true reported = Is-same t v.kind v.value slots (put slots d (slots n)) n d (one true reported refl) is
    by false reported = copied_is t v slots slots n (words_of_kind v.kind) d (omega arith) is
