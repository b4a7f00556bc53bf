-- The simulation of returns: the return address is first restored from the frame, if the function saved it.
use Rattle.std.proofs.Common.{◌≡◌, ℕ, ◌+◌, ◌*◌, ◌<◌, ◌≤◌, Bool, true, false, List, [], ◌∷◌, ◌++◌, Some, refl, sym, ap, subst, ◌∙◌, arith, Option, None}
use Rattle.std.specs.Prelude.{◌==◌, if◌then◌else◌}
use Rattle.std.proofs.lemmas.Bool.{false≢true}
use Rattle.cyc_plain.specs.inside.Uses.{is_among, reads}
use Rattle.cyc_select.specs.declared.constants.TheConstants.{FRAME}
use Rattle.cyc_machine_model.specs.declared.constants.TheConstants.{RETURN_ADDRESS}
use Rattle.cyc_isa.specs.Effect.{memory_address}
use Rattle.cyc_machine_model.specs.State.{globals_length, words_per_call}
use Rattle.cyc_plain.specs.declared.instruction.Instruction.{Instruction}
use Rattle.cyc_plain.specs.declared.instruction.Instruction.TheVariants as plain
use Rattle.cyc_plain.specs.inside.Program.{Program, routine_at}
use Rattle.cyc_plain.specs.inside.State as states
use Rattle.cyc_plain.specs.inside.State.{Words, put, Configuration}
use Rattle.cyc_plain.specs.inside.Step.{instruction_at, performed, returns}
use Rattle.cyc_plain.specs.inside.WellFormed.{IsWellFormed, HasSlots}
use Rattle.cyc_plain.proofs.RunLaws.{zeros, calls_nothing}
use Rattle.cyc_plain.proofs.SlotLaws.{put-other}
use Rattle.cyc_frame.specs.inside.Layout.{AreFrames, frame_at}
use Rattle.cyc_frame.specs.inside.Frame.{Frame}
use Rattle.cyc_select.specs.declared.code.Line.{Line}
use Rattle.cyc_select.specs.declared.code.Line.TheVariants as lines
use Rattle.cyc_select.specs.inside.Labelled.{Labelled, IsFormed, IsReturnPoint, AreAddresses}
use Rattle.cyc_select.specs.inside.Machine as labelled
use Rattle.cyc_select.specs.inside.Machine.{State, Running}
use Rattle.cyc_select.specs.inside.Instructions.{load}
use Rattle.cyc_select.specs.inside.Slots.{value_register, way_count}
use Rattle.cyc_select.specs.inside.Counts.{ending_count, instruction_line}
use Rattle.cyc_select.specs.inside.Selection.{ordinary, ending_code, returning_code}
use Rattle.cyc_select.proofs.values.Computing.{HeldIn}
use Rattle.cyc_select.proofs.relation.Held.{slot_held}
use Rattle.cyc_select.proofs.relation.Values.{Caches, among}
use Rattle.cyc_select.proofs.effects.Views.{Contents}
use Rattle.cyc_select.proofs.effects.Sequences.{Stands}
use Rattle.cyc_select.proofs.effects.Walks.{Walk, walk_few, walk_block}
use Rattle.cyc_select.proofs.relation.Waiting.{IsBack, after_line}
use Rattle.cyc_select.proofs.relation.Standing.{stage_of, Standing, return_cell, return_address, standing_registers}
use Rattle.cyc_select.proofs.relation.Matches.{After, At, Reached}
use Rattle.cyc_select.proofs.steps.Returns.{loaded, returning_goes}

-- Loading the return address register leaves each slot's word where it is held.
held_aside : (globals stack : ℕ) (frame : Frame) (r : Words) (w : Contents) (slots : Words) (slot word : ℕ) (o : Option ℕ) → HeldIn globals stack o frame (r FRAME) w r slots slot
    → HeldIn globals stack o frame (put r RETURN_ADDRESS word FRAME) w (put r RETURN_ADDRESS word) slots slot
held_aside globals stack frame r w slots slot word None held = held
held_aside globals stack frame r w slots slot word (Some k) (low, high, is, fits) = (low, high, put-other r RETURN_ADDRESS k word (λ e. absurd (omega (arith, e, high))) ∙ is, fits)

module _ (program : Program) (well : IsWellFormed program) (frames : List Frame) (fit : AreFrames program frames) (code : Labelled) (formed : IsFormed code) (addresses : ℕ → ℕ) (pages calls : ℕ) (few : calls ≤ 4096)
    (lie : AreAddresses code addresses) (c : Configuration) (run : labelled.Configuration) (r : Words) (w : Contents) (base back : ℕ)
    (now : At program well frames fit code formed addresses pages calls few (instruction_line program frames c.active.function c.active.next) c.output c.input r w run)
    (s : Standing program frames addresses pages calls c r w base back (stage_of frames c) c.active.slots)
    (caches : Caches program frames c.active.function c.active.next r c.active.slots)
    (i : Instruction) (value : ℕ) (at_i : instruction_at program (states.place_of (states.Running c)) ≡ Some i) (free : calls_nothing i ≡ true)
    (needs : (slot : ℕ) → is_among value (routine_at program c.active.function).results slot ≡ true → reads (routine_at program c.active.function).results i slot ≡ true)
    (does : performed program zeros c i ≡ returns c value (routine_at program c.active.function).results c.frames) (none_open : c.active.handlers ≡ [])
    (in_range : HasSlots (routine_at program c.active.function) value (routine_at program c.active.function).results)
    (returns_to : (function index callee arguments count result : ℕ) → instruction_at program (record { function = function; index = index }) ≡ Some (plain.Call callee arguments count result)
    → IsReturnPoint code (after_line program frames function index callee arguments count result))
    (stands : Stands code (instruction_line program frames c.active.function c.active.next) (returning_code (c.active.function == program.main) (frame_at frames c.active.function) (instruction_line program frames c.active.function c.active.next) value (routine_at program c.active.function).results)) where
  abbrev here : ℕ
  here = instruction_line program frames c.active.function c.active.next

  abbrev frame : Frame
  frame = frame_at frames c.active.function

  abbrev results : ℕ
  results = (routine_at program c.active.function).results

  abbrev ending : ℕ
  ending = ending_count program c.active.function

  abbrev Goes : (least lo hi : ℕ) → State → Type 0
  Goes least lo hi t = Walk code formed addresses globals_length (words_per_call * calls) least lo hi c.output (After program pages calls c) (Reached program well frames fit code formed addresses pages calls few c) t

  -- The slots that a function returns are live at the return, so the word of each is in a register or in memory.
  returned_held : (slot : ℕ) → value ≤ slot → slot < value + results → HeldIn globals_length (words_per_call * calls) (value_register frame slot) frame (r FRAME) w r c.active.slots slot
  returned_held slot from below =
      slot_held program well frames fit code formed addresses pages calls few c run r w base back now s caches (value_register frame slot) slot refl (omega (arith, below, in_range))
      (0, (i, at_i, needs slot (among value results slot from below)))

  -- Returns the MIPS lines of a return after the one that restores the return address.
  abbrev rest : ℕ → List Line
  rest line = ending_code (c.active.function == program.main) frame line value ++ ordinary (loaded frame value results) ++ lines.Return ∷ []

  abbrev again : Words
  again = put r RETURN_ADDRESS (w.words (memory_address (r FRAME) (4 * frame.return_address)))

  pub return_goes : Goes 1 here (here + (way_count frame + ending + (results + frame.saved + 2))) (Running run)
  return_goes = go frame.saves refl stands
    where
      go : (b : Bool) → frame.saves ≡ b → Stands code here (ordinary (if b then load RETURN_ADDRESS (4 * frame.return_address) ∷ [] else []) ++ rest (here + (if b then 1 else 0)))
          → Goes 1 here (here + ((if b then 1 else 0) + ending + (results + frame.saved + 2))) (Running run)
      go true saved there =
          let top : here + 1 + (ending + (results + frame.saved + 2)) ≡ here + (1 + ending + (results + frame.saved + 2)) = omega arith in
          let restored = standing_registers program well frames fit addresses pages calls few c r w base back (stage_of frames c) c.active.slots s again refl refl refl (λ outside. absurd (false≢true (sym outside ∙ saved))) refl
          (λ j past high. put-other r RETURN_ADDRESS (17 + j) _ (λ e. absurd (omega (arith, e, high)))) in
          let way : again RETURN_ADDRESS ≡ back =
          ap w.words (return_address program well frames fit addresses pages calls few c r w base back (stage_of frames c) c.active.slots s) ∙ subst (λ (x : Bool). IsBack x frame r w base back) saved s.way in
          walk_few code formed addresses globals_length (words_per_call * calls) 1 (1 + 1) here (here + (1 + ending + (results + frame.saved + 2))) c.output _ (Running run) (omega arith)
          (walk_block code formed addresses globals_length (words_per_call * calls) (load RETURN_ADDRESS (4 * frame.return_address) ∷ []) 1 here here (here + (1 + ending + (results + frame.saved + 2))) c.output c.input _ r w run now (there.0, tt)
          ((refl, return_cell program well frames fit addresses pages calls few c r w base back (stage_of frames c) c.active.slots s), tt) (omega arith)
          (λ d later.
          subst (λ (n : ℕ). Goes 1 (here + 1) n (Running d)) top
          (returning_goes program well frames fit code formed addresses pages calls few lie c d again w base back (here + 1) later restored way i value at_i free
          (λ slot from below. held_aside globals_length (words_per_call * calls) frame r w c.active.slots slot (w.words (memory_address (r FRAME) (4 * frame.return_address))) (value_register frame slot) (returned_held slot from below))
          does none_open returns_to there.1)))
      go false unsaved there =
          let line : here + 0 ≡ here = omega arith in
          let top : here + (ending + (results + frame.saved + 2)) ≡ here + (0 + ending + (results + frame.saved + 2)) = omega arith in
          subst (λ (n : ℕ). Goes 1 here n (Running run)) top
          (returning_goes program well frames fit code formed addresses pages calls few lie c run r w base back here now s (subst (λ (x : Bool). IsBack x frame r w base back) unsaved s.way) i value at_i free
          returned_held does none_open returns_to (subst (λ (n : ℕ). Stands code here (rest n)) line there))
