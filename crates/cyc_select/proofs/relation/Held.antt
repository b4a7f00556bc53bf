-- Each operand of an instruction is a constant, or a slot whose word is in memory or in the slot's register.
use Rattle.std.proofs.Common.{◌≡◌, ℕ, ◌*◌, ◌<◌, ◌≤◌, true, List, Option, Some, None, refl, subst}
use Rattle.cyc_plain.specs.inside.Uses.{is_slot, reads}
use Rattle.cyc_machine_model.specs.State.{globals_length, words_per_call}
use Rattle.cyc_isa.specs.Effect.{memory_address}
use Rattle.cyc_words.specs.Word.{IsWord}
use Rattle.cyc_words.proofs.Numbers.{eqb_itself}
use Rattle.cyc_plain.specs.declared.instruction.Instruction.{Instruction}
use Rattle.cyc_plain.specs.declared.instruction.Operand.{Operand}
use Rattle.cyc_plain.specs.declared.instruction.Operand.TheVariants as operands
use Rattle.cyc_plain.specs.inside.Program.{Program, routine_at}
use Rattle.cyc_plain.specs.inside.State as states
use Rattle.cyc_plain.specs.inside.State.{Words, Configuration}
use Rattle.cyc_plain.specs.inside.Step.{instruction_at, operand_word}
use Rattle.cyc_plain.specs.inside.WellFormed.{IsOperand, IsOfWord, IsWellFormed}
use Rattle.cyc_frame.specs.inside.Frame.{Frame}
use Rattle.cyc_registers.specs.inside.Interference.{AreHomes}
use Rattle.cyc_frame.specs.inside.Layout.{AreFrames, frame_at}
use Rattle.cyc_select.specs.declared.constants.TheConstants.{FRAME}
use Rattle.cyc_select.specs.inside.Labelled.{Labelled, IsFormed}
use Rattle.cyc_select.specs.inside.Machine as labelled
use Rattle.cyc_select.specs.inside.Instructions.{slot_offset}
use Rattle.cyc_select.specs.inside.Slots.{value_register}
use Rattle.cyc_select.specs.inside.Counts.{instruction_line}
use Rattle.cyc_select.proofs.values.Computing.{HeldIn, IsHeld}
use Rattle.cyc_select.proofs.relation.Matches.{At}
use Rattle.cyc_select.proofs.relation.Standing.{Standing, slot_cell, slot_word_is, stage_of}
use Rattle.cyc_select.proofs.relation.Values.{Caches, memory_kept}
use Rattle.cyc_select.proofs.effects.Views.{Contents}
use Rattle.cyc_registers.specs.inside.Liveness.{IsLiveAt}

module _ (program : Program) (well : IsWellFormed program) (frames : List Frame) (fit : AreFrames program frames) (code : Labelled) (formed : IsFormed code) (addresses : ℕ → ℕ) (pages calls : ℕ) (few : calls ≤ 4096)
    (c : Configuration)
    (run : labelled.Configuration) (r : Words) (w : Contents) (base back : ℕ)
    (now : At program well frames fit code formed addresses pages calls few (instruction_line program frames c.active.function c.active.next) c.output c.input r w run)
    (s : Standing program frames addresses pages calls c r w base back (stage_of frames c) c.active.slots)
    (caches : Caches program frames c.active.function c.active.next r c.active.slots) where
  abbrev frame : Frame
  frame = frame_at frames c.active.function

  abbrev slots : ℕ
  slots = (routine_at program c.active.function).slots

  right : AreHomes program (routine_at program c.active.function) (frame_at frames c.active.function).saved (frame_at frames c.active.function).homes
  right = fit.homes c.active.function s.known

  abbrev pub Held : Operand → Type 0
  Held o = IsHeld globals_length (words_per_call * calls) frame (r FRAME) w r c.active.slots o

  -- `Uses` says that an instruction reads the slot that an operand names, if the operand is a slot.
  abbrev pub Uses : Instruction → Operand → Type 0
  Uses i o = (slot : ℕ) → is_slot o slot ≡ true → reads (routine_at program c.active.function).results i slot ≡ true

  pub slot_held : (o : Option ℕ) (slot : ℕ) → value_register (frame_at frames c.active.function) slot ≡ o → slot < (routine_at program c.active.function).slots
      → IsLiveAt program (routine_at program c.active.function) slot c.active.next
      → HeldIn globals_length (words_per_call * calls) o (frame_at frames c.active.function) (r FRAME) w r c.active.slots slot
  slot_held None slot none below wanted = (
    slot_cell program well frames fit addresses pages calls few c r w base back (stage_of frames c) c.active.slots s slot below,
    slot_word_is program well frames fit addresses pages calls few c r w base back (stage_of frames c) c.active.slots s slot below (memory_kept frame slot none),
  )
  slot_held (Some k) slot has below wanted =
      (right.low slot k has, right.high slot k has, caches slot k has wanted, subst IsWord (caches slot k has wanted) (now.r_words k))

  pub operand_held : (i : Instruction) → instruction_at program (states.place_of (states.Running c)) ≡ Some i → (o : Operand) → Uses i o
      → IsOperand (routine_at program c.active.function) o × IsOfWord o → Held o
  operand_held i at_i (operands.Slot number) used (below, fits) =
      slot_held (value_register frame number) number refl below (0, (i, at_i, used number (eqb_itself number)))
  operand_held i at_i (operands.Word word) used (below, fits) = fits

  held_word : (o : Option ℕ) (slot : ℕ) → HeldIn globals_length (words_per_call * calls) o (frame_at frames c.active.function) (r FRAME) w r c.active.slots slot → IsWord (c.active.slots slot)
  held_word None slot (there, is) = subst IsWord is (now.w_words (memory_address (r FRAME) (slot_offset frame slot)))
  held_word (Some k) slot (low, high, is, fits) = fits

  pub operand_is_word : (o : Operand) → Held o → IsWord (operand_word c.active.slots o)
  operand_is_word (operands.Slot number) held = held_word (value_register frame number) number held
  operand_is_word (operands.Word word) held = held
