-- This file is about code that needs the address of a cell in a slot: the address is in this slot already, or one instruction moves it
-- to this slot.
use Rattle.std.proofs.Common.{◌≡◌, ℕ, zero, suc, ◌+◌, ◌^◌, ◌<◌, Bool, true, false, refl, subst, ◌∙◌, arith, add-zero}
use Rattle.std.proofs.lemmas.Bool.{eqb-true}
use Rattle.cyc_words.specs.Word.{add_of}
use Rattle.cyc_types.specs.TypedTrees.{Program}
use Rattle.cyc_plain.specs.declared.instruction.BinaryOperator.TheVariants as plain_binary
use Rattle.cyc_plain.specs.declared.instruction.Operand.{Operand}
use Rattle.cyc_plain.specs.declared.instruction.Operand.TheVariants as operands
use Rattle.cyc_plain.specs.declared.instruction.Instruction.{Instruction}
use Rattle.cyc_plain.specs.declared.instruction.Instruction.TheVariants as instructions
use Rattle.cyc_plain.specs.inside.State as plain
use Rattle.cyc_plain.specs.inside.State.{put, Configuration}
use Rattle.cyc_plain.specs.inside.Step.{Choice, operand_word, with_slots, advanced, performed}
use Rattle.cyc_plain.specs.inside.Straight.{At}
use Rattle.cyc_memory_relation.specs.inside.Tables.{Tables}
use Rattle.cyc_memory_relation.specs.inside.Words.{Points}
use Rattle.cyc_lower_proof.specs.inside.ValueCode.{is_in, move_of}
use Rattle.cyc_lower_proof.specs.inside.Lowering.{lower_program}
use Rattle.cyc_lower_proof.proofs.relation.simulation.Stacks.{code_of}
use Rattle.cyc_lower_proof.proofs.relation.code.Stands.{CopyBy, AddressAt}
use Rattle.cyc_lower_proof.proofs.place_steps.PlaceWords.{add_is}

module _ (source : Program) where
  -- The address of a cell is in slot d already, or one instruction moves it there.
  pub data Brought (t : Tables) (object offset d q : ℕ) (c : Configuration) : Type 0 where
    in_slot : c.active.next ≡ q → Points t object offset (c.active.slots d) → Brought t object offset d q c
    by_word : (i : Instruction) → (word : ℕ) → At (code_of source c.active.function) c.active.next i
        → ((choice : Choice) → performed (lower_program source) choice c i ≡ plain.Running (advanced (with_slots c (put c.active.slots d word))))
        → c.active.next + 1 ≡ q → Points t object offset word → Brought t object offset d q c

  -- Adding 0 to a 32-bit word does not change it.
  itself : (w : ℕ) → w < 4294967296 → add_of w 0 ≡ w
  itself w small = add_is w 0 (omega (arith, small)) ∙ add-zero w

  copied_address : (t : Tables) (object offset : ℕ) (b : Bool) (o : Operand) (d q : ℕ) (c : Configuration) → is_in o d ≡ b → Points t object offset (operand_word c.active.slots o)
      → CopyBy (code_of source c.active.function) b 1 o d c.active.next q → Brought t object offset d q c
  copied_address t object offset true (operands.Slot n) d q c same points end = in_slot end (subst (λ x. Points t object offset (c.active.slots x)) (eqb-true n d same) points)
  copied_address t object offset true (operands.Word n) d q c same points end = absurd (let f : false ≡ true = same in cc)
  copied_address t object offset false (operands.Slot n) d q c same points (here, end) = by_word (move_of 1 d (operands.Slot n)) (c.active.slots n) here (λ choice. refl) end points
  copied_address t object offset false (operands.Word n) d q c same points (here, end) = by_word (move_of 1 d (operands.Word n)) n here (λ choice. refl) end points

  pub brought : (t : Tables) (object offset more : ℕ) (o : Operand) (d q : ℕ) (c : Configuration) → operand_word c.active.slots o < 2 ^ 32 → Points t object offset (add_of (operand_word c.active.slots o) more)
      → AddressAt (code_of source c.active.function) o more d c.active.next q → Brought t object offset d q c
  brought t object offset zero o d q c small points copy =
      copied_address t object offset (is_in o d) o d q c refl (subst (Points t object offset) (itself (operand_word c.active.slots o) small) points) copy
  brought t object offset (suc bytes) o d q c small points (here, end) =
      by_word (instructions.Binary plain_binary.Add d o (operands.Word (suc bytes))) (add_of (operand_word c.active.slots o) (suc bytes)) here (λ choice. refl) end points
