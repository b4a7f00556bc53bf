-- The simulation of a function's entry: the lines that save the return address and registers, and those that load parameters from memory.
use Rattle.std.proofs.Common.{◌≡◌, ◌≢◌, ℕ, suc, ◌+◌, ◌*◌, ◌<◌, ◌≤◌, Bool, true, false, List, [], ◌∷◌, ◌++◌, length, length-append, sym, ap, refl, subst, ◌∙◌, arith, inl, inr}
use Rattle.std.specs.Prelude.{if◌then◌else◌}
use Rattle.cyc_isa.specs.Effect.{memory_address}
use Rattle.cyc_isa.specs.declared.instr.Instr.{Instr}
use Rattle.cyc_machine_model.specs.State.{globals_length, words_per_call}
use Rattle.cyc_machine_model.specs.declared.constants.TheConstants.{RETURN_ADDRESS}
use Rattle.cyc_plain.specs.declared.limits.TheConstants.{MOST_FRAME_WORDS}
use Rattle.cyc_plain.specs.inside.Program.{Program, no_routine, routine_at}
use Rattle.cyc_plain.specs.inside.State.{Words, put, Configuration}
use Rattle.cyc_plain.specs.inside.WellFormed.{IsWellFormed}
use Rattle.cyc_plain.proofs.SlotLaws.{put-same, put-other}
use Rattle.cyc_registers.specs.inside.Interference.{AreHomes}
use Rattle.cyc_registers.specs.inside.Liveness.{IsLiveAt}
use Rattle.cyc_frame.specs.inside.Layout.{IsFrame, AreFrames, frame_at}
use Rattle.cyc_frame.specs.inside.Frame.{Frame}
use Rattle.cyc_select.specs.declared.constants.TheConstants.{FRAME, LOWEST, HANDLERS, REGIONS, GLOBALS}
use Rattle.cyc_select.specs.inside.Labelled.{Labelled, IsFormed}
use Rattle.cyc_select.specs.inside.Machine.{State, Running}
use Rattle.cyc_select.specs.inside.Instructions.{slot_offset, store}
use Rattle.cyc_select.specs.inside.Slots.{arrivals, way_code, way_count, saves, saving_code, saving_count}
use Rattle.cyc_select.specs.inside.Counts.{function_line, instruction_line}
use Rattle.cyc_select.specs.inside.Selection.{ordinary}
use Rattle.cyc_select.proofs.layout.Lines.{line_first}
use Rattle.cyc_select.proofs.effects.Views.{Contents}
use Rattle.cyc_select.proofs.effects.Sequences.{Stands, after_r, after_w, after_r-append, after_w-append, AreSafe}
use Rattle.cyc_select.proofs.effects.Walks.{Walk, now_at, now_is, walk_few, walk_from, walk_block}
use Rattle.cyc_select.proofs.relation.Cells.{IsCell}
use Rattle.cyc_select.proofs.relation.Waiting.{preserved_of, left_past, Lies, IsBack, back_in}
use Rattle.cyc_select.proofs.relation.Standing.{entering, stage_of, Standing, lies, word_cell, return_address, return_cell, slot_address, slot_cell, standing_registers, standing_begun}
use Rattle.cyc_select.proofs.relation.Arriving.{Arrived, arrived, length_arrivals}
use Rattle.cyc_select.proofs.relation.Matches.{After, Ready, Entered}
use Rattle.cyc_select.proofs.steps.Preserving.{AreSaved, are_saved, entered_left, length_saves}
use Rattle.cyc_select.proofs.values.Blocks.{safe_append, lasting_same}

length_way : (frame : Frame) → length (way_code frame) ≡ way_count frame
length_way frame = go frame.saves
  where
    go : (b : Bool) → length (if b then store RETURN_ADDRESS (4 * frame.return_address) ∷ [] else []) ≡ (if b then 1 else 0)
    go true = refl
    go false = refl

length_saving : (frame : Frame) → length (saving_code frame) ≡ saving_count frame
length_saving frame =
    omega (arith, length-append (way_code frame) (saves frame ++ arrivals frame), length-append (saves frame) (arrivals frame), length_way frame, length_saves frame.first_saved 0 frame.saved, length_arrivals frame)

module _ (program : Program) (well : IsWellFormed program) (frames : List Frame) (fit : AreFrames program frames) (code : Labelled) (formed : IsFormed code) (addresses : ℕ → ℕ) (pages calls : ℕ) (few : calls ≤ 4096)
    (c : Configuration) (t : State) (e : Entered program well frames fit code formed addresses pages calls few c t)
    (stands : Stands code (function_line program frames c.active.function) (ordinary (saving_code (frame_at frames c.active.function))))
    (n hi : ℕ) (Goal : State → Type 0)
    (rest : (u : State) → Ready program well frames fit code formed addresses pages calls few c u → Walk code formed addresses globals_length (words_per_call * calls) n (instruction_line program frames c.active.function c.active.next) hi c.output (After program pages calls c) Goal u) where
  abbrev frame : Frame
  frame = frame_at frames c.active.function

  abbrev here : ℕ
  here = function_line program frames c.active.function

  abbrev back : ℕ
  back = e.r RETURN_ADDRESS

  abbrev there : ℕ
  there = memory_address (e.r 29) (4 * frame.return_address)

  abbrev Goes : ℕ → State → Type 0
  Goes line t = Walk code formed addresses globals_length (words_per_call * calls) n line hi c.output (After program pages calls c) Goal t

  -- The MIPS line that saves the return address, and the contents of memory after it.
  abbrev way : List Instr
  way = way_code frame

  abbrev kept : Contents
  kept = after_w (way_code frame) e.r e.w

  abbrev final : Contents
  final = after_w (saves frame) e.r kept

  own : IsFrame (routine_at program c.active.function) (frame_at frames c.active.function)
  own = fit.each c.active.function e.standing.known

  here_lies : Lies program frames fit addresses e.base (suc (length c.frames))
  here_lies = lies program well frames fit addresses pages calls few c e.r e.w e.base back entering c.active.slots e.standing

  saved_cell : (j : ℕ) → j < 7 → IsCell globals_length (words_per_call * calls) (e.base + 4 * (frame.first_saved + j))
  saved_cell j high =
      word_cell program well frames fit addresses pages calls few c e.r e.w e.base back entering c.active.slots e.standing (frame.first_saved + j) (let inside = own.saved_inside j high in omega (arith, inside, own.small))

  room : frame.first_saved + 7 ≤ MOST_FRAME_WORDS
  room = (let last = own.saved_inside 6 (omega arith) in omega (arith, last, own.small))

  saved : AreSaved globals_length (words_per_call * calls) e.base frame.first_saved (omega (arith, here_lies.below_end)) room saved_cell 0 frame.saved e.r kept
  saved = are_saved globals_length (words_per_call * calls) e.base frame.first_saved (omega (arith, here_lies.below_end)) room saved_cell 0 frame.saved e.r kept e.standing.base_is (omega (arith, own.most_saved))

  -- `IsKeptBy` describes the effect of the MIPS line that saves the return address, if the function has one.
  record IsKeptBy (b : Bool) : Type 0 where
    pub safe : AreSafe globals_length (words_per_call * calls) (if b then store RETURN_ADDRESS (4 * frame.return_address) ∷ [] else []) e.r e.w
    pub registers : after_r (if b then store RETURN_ADDRESS (4 * frame.return_address) ∷ [] else []) e.r e.w ≡ e.r
    pub outside : (a : ℕ) → a ≢ e.base + 4 * frame.return_address → (after_w (if b then store RETURN_ADDRESS (4 * frame.return_address) ∷ [] else []) e.r e.w).words a ≡ e.w.words a
    pub store_same : (after_w (if b then store RETURN_ADDRESS (4 * frame.return_address) ∷ [] else []) e.r e.w).store ≡ e.w.store
    pub is_back : IsBack b frame e.r (after_w (if b then store RETURN_ADDRESS (4 * frame.return_address) ∷ [] else []) e.r e.w) e.base back

  kept_by : (b : Bool) → IsKeptBy b
  kept_by true =
      let at = return_address program well frames fit addresses pages calls few c e.r e.w e.base back entering c.active.slots e.standing in
      record {
        safe = (return_cell program well frames fit addresses pages calls few c e.r e.w e.base back entering c.active.slots e.standing, tt);
        registers = refl;
        outside = λ a other. put-other e.w.words there a back (λ same. other (same ∙ at));
        store_same = refl;
        is_back = ap (put e.w.words there back) (sym at) ∙ put-same e.w.words there back;
      }
  kept_by false = record { safe = tt; registers = refl; outside = λ a other. refl; store_same = refl; is_back = refl }

  way_kept : IsKeptBy frame.saves
  way_kept = kept_by frame.saves

  -- The frame's words for saved registers are disjoint from all of the frame's other words.
  beside : (a : ℕ) → ((j : ℕ) → j < 7 → a ≢ e.base + 4 * (frame.first_saved + j)) → final.words a ≡ kept.words a
  beside a apart = saved.untouched a (λ j below. apart j (omega (arith, below, own.most_saved)))

  begins : Standing program frames addresses pages calls c e.r final e.base back (stage_of frames c) c.active.slots
  begins =
      standing_begun program well frames fit addresses pages calls few c e.r e.w e.base back entering c.active.slots e.standing final frame.saves
      (λ a not_back apart. beside a apart ∙ way_kept.outside a not_back)
      (saved.store_same ∙ way_kept.store_same)
      (back_in frame.saves frame e.r kept final e.base back (beside (e.base + 4 * frame.return_address) (λ j high same. own.saved_apart j high (omega (arith, same)))) way_kept.is_back)
      (λ j high.
      entered_left globals_length (words_per_call * calls) e.base frame.first_saved (omega (arith, here_lies.below_end)) room saved_cell frame.saved e.r kept e.standing.base_is own.most_saved j
      ∙ (sym (left_past frame.first_saved 0 e.base (preserved_of e.r) e.w j (omega arith)) ∙ e.standing.leaves j high))

  right : AreHomes program (routine_at program c.active.function) (frame_at frames c.active.function).saved (frame_at frames c.active.function).homes
  right = fit.homes c.active.function e.standing.known

  -- The saves of registers at a function's entry overwrite no slot's word.
  still : (slot : ℕ) → slot < (routine_at program c.active.function).slots → final.words (e.base + slot_offset frame slot) ≡ e.w.words (e.base + slot_offset frame slot)
  still slot below =
      beside (e.base + slot_offset frame slot) (λ j high same. own.saved_beside slot j below high (omega (arith, same)))
      ∙ way_kept.outside (e.base + slot_offset frame slot) (λ same. own.beside slot below (omega (arith, same)))

  takes : (routine_at program c.active.function).parameters ≤ (routine_at program c.active.function).slots
  takes = (well.functions c.active.function no_routine e.standing.known).parameters

  its_address : (slot : ℕ) → slot < (routine_at program c.active.function).slots → memory_address (e.r FRAME) (slot_offset frame slot) ≡ e.base + slot_offset frame slot
  its_address slot below = slot_address program well frames fit addresses pages calls few c e.r final e.base back (stage_of frames c) c.active.slots begins slot below

  came : Arrived globals_length (words_per_call * calls) program frames c.active.function c.active.next e.r final c.active.slots
  came =
      arrived globals_length (words_per_call * calls) program frames c.active.function right own.parameters takes c.active.next e.r final c.active.slots
      (λ slot below. slot_cell program well frames fit addresses pages calls few c e.r final e.base back (stage_of frames c) c.active.slots begins slot below)
      (λ slot below kept. ap final.words (its_address slot (omega (arith, below, takes))) ∙ (still slot (omega (arith, below, takes)) ∙ e.there slot below kept))
      (λ slot k comes wanted. e.came slot k comes (subst (IsLiveAt program (routine_at program c.active.function) slot) e.first wanted))
      (λ slot k has wanted. right.entry slot k has (subst (IsLiveAt program (routine_at program c.active.function) slot) e.first wanted))

  abbrev last : Words
  last = after_r (arrivals frame) e.r final

  -- The saves at a function's entry change no register. So the registers after all lines of the entry are those after the
  -- loads of parameters alone.
  registers_same : after_r (saving_code frame) e.r e.w ≡ last
  registers_same =
      after_r-append (way_code frame) (saves frame ++ arrivals frame) e.r e.w
      ∙ (ap (λ (q : Words). after_r (saves frame ++ arrivals frame) q kept) way_kept.registers
      ∙ (after_r-append (saves frame) (arrivals frame) e.r kept ∙ ap (λ (q : Words). after_r (arrivals frame) q final) saved.registers))

  memory_is : after_w (saving_code frame) e.r e.w ≡ final
  memory_is =
      after_w-append (way_code frame) (saves frame ++ arrivals frame) e.r e.w
      ∙ (ap (λ (q : Words). after_w (saves frame ++ arrivals frame) q kept) way_kept.registers
      ∙ (after_w-append (saves frame) (arrivals frame) e.r kept ∙ (ap (λ (q : Words). after_w (arrivals frame) q final) saved.registers ∙ came.memory)))

  safe : AreSafe globals_length (words_per_call * calls) (saving_code frame) e.r e.w
  safe =
      safe_append globals_length (words_per_call * calls) (way_code frame) (saves frame ++ arrivals frame) e.r e.w way_kept.safe
      (subst (λ (q : Words). AreSafe globals_length (words_per_call * calls) (saves frame ++ arrivals frame) q kept) (sym way_kept.registers)
      (safe_append globals_length (words_per_call * calls) (saves frame) (arrivals frame) e.r kept saved.safe
      (subst (λ (q : Words). AreSafe globals_length (words_per_call * calls) (arrivals frame) q final) (sym saved.registers) came.safe)))

  ready : Standing program frames addresses pages calls c last final e.base back (stage_of frames c) c.active.slots
  ready =
      standing_registers program well frames fit addresses pages calls few c e.r final e.base back (stage_of frames c) c.active.slots begins last
      (came.others 0 (inl (omega arith))) (came.others FRAME (inr (omega arith))) (came.others LOWEST (inr (omega arith))) (λ outside. came.others RETURN_ADDRESS (inr (omega arith)))
      (lasting_same last e.r (came.others HANDLERS (inr (omega arith))) (came.others REGIONS (inr (omega arith))) (came.others GLOBALS (inr (omega arith))))
      (λ j past high. came.aside (17 + j) (λ slot has. absurd (let its = right.saved_registers slot (17 + j) has (omega arith) in omega (arith, its, past))))

  line_is : here + length (saving_code frame) ≡ instruction_line program frames c.active.function c.active.next
  line_is =
      let line = ap (instruction_line program frames c.active.function) e.first ∙ line_first program frames c.active.function in
      omega (arith, line, length_saving frame)

  pub entered_goes : Goes here (Running e.run)
  entered_goes =
      walk_few code formed addresses globals_length (words_per_call * calls) n (length (saving_code frame) + n) here hi c.output Goal (Running e.run) (omega arith)
      (walk_block code formed addresses globals_length (words_per_call * calls) (saving_code frame) n here here hi c.output c.input Goal e.r e.w e.run e.now stands safe (omega arith)
      (λ d later.
      walk_from code formed addresses globals_length (words_per_call * calls) n (here + length (saving_code frame)) (instruction_line program frames c.active.function c.active.next) hi c.output Goal (Running d) (omega (arith, line_is))
      (rest (Running d) (record {
        run = d;
        r = last;
        w = final;
        base = e.base;
        back = back;
        is = refl;
        now = now_at code formed addresses globals_length (words_per_call * calls) (here + length (saving_code frame)) (instruction_line program frames c.active.function c.active.next) c.output c.input last final d line_is
            (now_is code formed addresses globals_length (words_per_call * calls) (here + length (saving_code frame)) c.output c.input (after_r (saving_code frame) e.r e.w) (after_w (saving_code frame) e.r e.w) last final d registers_same memory_is later);
        standing = ready;
        caches = came.caches;
      }))))
