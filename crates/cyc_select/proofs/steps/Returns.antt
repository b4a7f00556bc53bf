-- The simulation of returns: the results are loaded into registers, and the run continues after the call or ends.
use Rattle.std.proofs.Common.{◌≡◌, ◌≢◌, ℕ, zero, suc, ◌+◌, ◌-◌, ◌*◌, ◌%◌, ◌^◌, ◌<◌, ◌≤◌, Bool, true, false, not, List, [], ◌∷◌, ◌++◌, length, length-append, Some, slice_get, refl, sym, ap, subst, ◌∙◌, arith, inl, inr}
use Rattle.std.specs.Prelude.{◌==◌, ◌⊎◌, if◌then◌else◌}
use Rattle.std.proofs.lemmas.Bool.{cases_Bool, eq-eqb, ne_eqb}
use Rattle.cyc_select.specs.declared.constants.TheConstants.{FRAME, LOWEST, HANDLERS, REGIONS, GLOBALS}
use Rattle.cyc_machine_model.specs.declared.constants.TheConstants.{RETURN_ADDRESS}
use Rattle.cyc_words.specs.Ending.{Returned}
use Rattle.cyc_words.specs.Word.{signed, add_of, sign_extended}
use Rattle.cyc_isa.specs.declared.instr.Instr.{Instr}
use Rattle.cyc_isa.specs.declared.instr.BranchOp.TheVariants as branch
use Rattle.cyc_isa.specs.Decoding.{register_of}
use Rattle.cyc_machine_model.specs.State.{globals_length, words_per_call}
use Rattle.cyc_plain.specs.declared.instruction.Instruction.{Instruction}
use Rattle.cyc_plain.specs.declared.instruction.Instruction.TheVariants as plain
use Rattle.cyc_plain.specs.inside.Program.{Program, no_routine, routine_at}
use Rattle.cyc_plain.specs.inside.State as states
use Rattle.cyc_plain.specs.inside.State.{Words, put, copied, Configuration}
use Rattle.cyc_plain.specs.inside.Step.{instruction_at, performed, returns, is_within, limit_of}
use Rattle.cyc_plain.specs.inside.WellFormed.{IsWellFormed}
use Rattle.cyc_plain.proofs.RunLaws.{zeros, zeros_at, over_within, calls_nothing, limit_free}
use Rattle.cyc_plain.proofs.SlotLaws.{put-same, put-other}
use Rattle.cyc_frame.specs.inside.Layout.{AreFrames, frame_at}
use Rattle.cyc_frame.specs.inside.Frame.{Frame}
use Rattle.cyc_select.specs.declared.code.Line.{Line}
use Rattle.cyc_select.specs.declared.code.Condition.TheVariants as conditions
use Rattle.cyc_select.specs.declared.code.Line.TheVariants as lines
use Rattle.cyc_select.specs.inside.Labelled.{Labelled, IsFormed, IsReturnPoint, AreAddresses}
use Rattle.cyc_select.specs.inside.Machine as labelled
use Rattle.cyc_select.specs.inside.Machine.{State, Running, Ended}
use Rattle.cyc_select.specs.inside.Instructions.{small, syscall}
use Rattle.cyc_select.specs.inside.Slots.{value_register, load_slot, load_all, restores, pop_frame, result_registers}
use Rattle.cyc_select.specs.inside.Counts.{ending_count}
use Rattle.cyc_select.specs.inside.Selection.{ordinary, ending_code, following}
use Rattle.cyc_select.proofs.values.Blocks.{ValuesSame, Puts, safe_append}
use Rattle.cyc_select.proofs.relation.Cells.{IsCell}
use Rattle.cyc_select.proofs.steps.Preserving.{length_restores, are_restored, returned_left}
use Rattle.cyc_select.proofs.steps.Calls.{length_ordinary}
use Rattle.cyc_select.proofs.values.Computing.{HeldIn, slot_puts}
use Rattle.cyc_select.proofs.values.Operations.{add_small}
use Rattle.cyc_select.proofs.effects.Views.{Contents, IsWritable}
use Rattle.cyc_select.proofs.effects.Sequences.{Stands, stands_front, stands_back, after_r, after_w, after_r-append, after_w-append, AreSafe}
use Rattle.cyc_select.proofs.effects.Walks.{Walk, walk_end, walk_few, walk_from, walk_block, walk_branch, walk_return, walk_returned}
use Rattle.cyc_select.proofs.relation.Waiting.{preserved_of, left_same, LeftBy, frame_size, Chain, IsNewest, after_line, AreBased}
use Rattle.cyc_select.proofs.relation.Standing.{word_cell, under_way, stage_of, Standing, lies}
use Rattle.cyc_select.proofs.relation.Matches.{After, At, Reached, reached, within, result_register}

-- ---- results loaded from slots into registers

-- Returns the last instructions before the jump of a return: they load the results, restore registers, and pop the frame.
abbrev pub loaded : Frame → (value count : ℕ) → List Instr
loaded frame value count = load_all frame value (result_registers count) ++ (restores frame ++ pop_frame ∷ [])

pub length_result_loads : (frame : Frame) (value count : ℕ) → count ≤ 3 → length (load_all frame value (result_registers count)) ≡ count
length_result_loads frame value zero few = refl
length_result_loads frame value (suc zero) few = refl
length_result_loads frame value (suc (suc zero)) few = refl
length_result_loads frame value (suc (suc (suc zero))) few = refl
length_result_loads frame value (suc (suc (suc (suc count)))) few = absurd (omega (arith, few))

pub length_loaded : (frame : Frame) (value count : ℕ) → count ≤ 3 → length (loaded frame value count) ≡ count + frame.saved + 1
length_loaded frame value count few =
    omega (
      arith,
      length-append (load_all frame value (result_registers count)) (restores frame ++ pop_frame ∷ []),
      length-append (restores frame) (pop_frame ∷ []),
      length_result_loads frame value count few,
      length_restores frame.first_saved 0 frame.saved,
    )

-- `AreLoads` says that the result registers hold the returned slots after the loads, and that no other register changes.
record AreLoads (globals stack : ℕ) (frame : Frame) (value count : ℕ) (r : Words) (w : Contents) (slots : Words) : Type 0 where
  pub safe : AreSafe globals stack (load_all frame value (result_registers count)) r w
  pub memory : after_w (load_all frame value (result_registers count)) r w ≡ w
  pub kept : (n : ℕ) → n < 32 → n ≢ 2 → n ≢ 3 → n ≢ 5 → after_r (load_all frame value (result_registers count)) r w n ≡ r n
  pub returned : (k : ℕ) → k < count → after_r (load_all frame value (result_registers count)) r w (result_register k) ≡ slots (value + k)

-- `AreLoaded` says that after the last lines of a return, the results are in registers and the callee-saved registers are restored.
record AreLoaded (globals stack base : ℕ) (frame : Frame) (value count : ℕ) (r : Words) (w : Contents) (slots : Words) : Type 0 where
  pub safe : AreSafe globals stack (loaded frame value count) r w
  pub base_moved : after_r (loaded frame value count) r w FRAME ≡ add_of (r FRAME) (sign_extended frame_size)
  pub kept : (n : ℕ) → n < 32 → n < 2 ⊎ 24 ≤ n → n ≢ FRAME → after_r (loaded frame value count) r w n ≡ r n
  pub unchanged : after_w (loaded frame value count) r w ≡ w
  pub returned : (k : ℕ) → k < count → after_r (loaded frame value count) r w (result_register k) ≡ slots (value + k)
  pub preserved : (j : ℕ) → j < 7 → after_r (loaded frame value count) r w (17 + j) ≡ LeftBy frame base (preserved_of r) w j

module _ (globals stack : ℕ) (frame : Frame) (r : Words) (w : Contents) (slots : Words) (value : ℕ) (zero_is : r 0 ≡ 0) where
  -- `Brings` describes the effect of loading a slot's word into one of the result registers.
  abbrev Brings : (target slot : ℕ) (q : Words) (m : Contents) → Type 0
  Brings target slot q m = Puts globals stack (load_slot frame target slot ∷ []) q m (target % 32) (target % 32) (slots slot)

  brings : (target slot : ℕ) → IsWritable (target % 32) → HeldIn globals stack (value_register frame slot) frame (r FRAME) w r slots slot
      → (q : Words) (m : Contents) → q 0 ≡ r 0 → q FRAME ≡ r FRAME → m ≡ w → ValuesSame q r → Brings target slot q m
  brings target slot writable held q m zero_same base_same memory values =
      slot_puts globals stack frame (r FRAME) w r slots q m (zero_same ∙ zero_is) base_same memory values (value_register frame slot) target slot writable held

  -- Loading one more result changes only the register to which it is loaded.
  one_later : (target slot : ℕ) (q : Words) (m : Contents) → target < 6 → Brings target slot q m → (n : ℕ) → n < 32 → n ≢ target → after_r (load_slot frame target slot ∷ []) q m n ≡ q n
  one_later target slot q m small puts n below other = puts.others n below (λ e. other (let f : n ≡ target = omega (arith, e, small) in f))

  values_later : (target slot : ℕ) (q : Words) (m : Contents) → target < 6 → Brings target slot q m → ValuesSame q r → ValuesSame (after_r (load_slot frame target slot ∷ []) q m) r
  values_later target slot q m small puts values n low high = one_later target slot q m small puts n (omega (arith, high)) (λ e. absurd (omega (arith, e, low, small))) ∙ values n low high

  one_is : (k : ℕ) (q : Words) → k < 1 → q 2 ≡ slots (value + 0) → q (result_register k) ≡ slots (value + k)
  one_is zero q below a = a
  one_is (suc k) q below a = absurd (omega arith)

  two_are : (k : ℕ) (q : Words) → k < 2 → q 2 ≡ slots (value + 0) → q 3 ≡ slots (value + 1) → q (result_register k) ≡ slots (value + k)
  two_are zero q below a b = a
  two_are (suc zero) q below a b = b
  two_are (suc (suc k)) q below a b = absurd (omega arith)

  three_are : (k : ℕ) (q : Words) → k < 3 → q 2 ≡ slots (value + 0) → q 3 ≡ slots (value + 1) → q 5 ≡ slots (value + 2) → q (result_register k) ≡ slots (value + k)
  three_are zero q below a b d = a
  three_are (suc zero) q below a b d = b
  three_are (suc (suc zero)) q below a b d = d
  three_are (suc (suc (suc k))) q below a b d = absurd (omega arith)

  are_loads : (count : ℕ) → count ≤ 3 → ((slot : ℕ) → value ≤ slot → slot < value + count → HeldIn globals stack (value_register frame slot) frame (r FRAME) w r slots slot)
      → AreLoads globals stack frame value count r w slots
  are_loads zero few held = record { safe = tt; memory = refl; kept = λ n below a b d. refl; returned = λ k below. absurd (omega (arith, below)) }
  are_loads (suc zero) few held =
      let a = brings 2 value refl (held value (omega arith) (omega arith)) r w refl refl refl (λ n low high. refl) in
      record {
        safe = a.safe;
        memory = a.memory;
        kept = λ n below other b d. one_later 2 value r w (omega arith) a n below other;
        returned = λ k below. one_is k (after_r (load_all frame value (result_registers 1)) r w) below (a.result ∙ ap slots (let e : value ≡ value + 0 = omega arith in e));
      }
  are_loads (suc (suc zero)) few held =
      let is : List Instr = load_slot frame 2 value ∷ [] in
      let a = brings 2 value refl (held value (omega arith) (omega arith)) r w refl refl refl (λ n low high. refl) in
      let kept_a : (n : ℕ) → n < 32 → n ≢ 2 → after_r (load_slot frame 2 value ∷ []) r w n ≡ r n = one_later 2 value r w (omega arith) a in
      let q : Words = after_r is r w in
      let m : Contents = after_w is r w in
      let b = brings 3 (suc value) refl (held (suc value) (omega arith) (omega arith)) q m (kept_a 0 (omega arith) (λ e. absurd (omega (arith, e)))) (kept_a FRAME (omega arith) (λ e. absurd (omega (arith, e)))) a.memory (values_later 2 value r w (omega arith) a (λ n low high. refl)) in
      let kept_b : (n : ℕ) → n < 32 → n ≢ 3 → after_r (load_slot frame 3 (suc value) ∷ []) q m n ≡ q n = one_later 3 (suc value) q m (omega arith) b in
      record {
        safe = (a.safe.0, b.safe);
        memory = b.memory ∙ a.memory;
        kept = λ n below not_a not_b d. kept_b n below not_b ∙ kept_a n below not_a;
        returned = λ k below.
            two_are k (after_r (load_all frame value (result_registers 2)) r w) below
            (kept_b 2 (omega arith) (λ e. absurd (omega (arith, e))) ∙ (a.result ∙ ap slots (let e : value ≡ value + 0 = omega arith in e)))
            (b.result ∙ ap slots (let e : suc value ≡ value + 1 = omega arith in e));
      }
  are_loads (suc (suc (suc zero))) few held =
      let is : List Instr = load_slot frame 2 value ∷ [] in
      let a = brings 2 value refl (held value (omega arith) (omega arith)) r w refl refl refl (λ n low high. refl) in
      let kept_a : (n : ℕ) → n < 32 → n ≢ 2 → after_r (load_slot frame 2 value ∷ []) r w n ≡ r n = one_later 2 value r w (omega arith) a in
      let q : Words = after_r is r w in
      let m : Contents = after_w is r w in
      let values_a = values_later 2 value r w (omega arith) a (λ n low high. refl) in
      let b = brings 3 (suc value) refl (held (suc value) (omega arith) (omega arith)) q m (kept_a 0 (omega arith) (λ e. absurd (omega (arith, e)))) (kept_a FRAME (omega arith) (λ e. absurd (omega (arith, e)))) a.memory values_a in
      let kept_b : (n : ℕ) → n < 32 → n ≢ 3 → after_r (load_slot frame 3 (suc value) ∷ []) q m n ≡ q n = one_later 3 (suc value) q m (omega arith) b in
      let js : List Instr = load_slot frame 3 (suc value) ∷ [] in
      let p : Words = after_r js q m in
      let u : Contents = after_w js q m in
      let both : (n : ℕ) → n < 32 → n ≢ 2 → n ≢ 3 → after_r (load_slot frame 3 (suc value) ∷ []) q m n ≡ r n = λ n below not_a not_b. kept_b n below not_b ∙ kept_a n below not_a in
      let d = brings 5 (suc (suc value)) refl (held (suc (suc value)) (omega arith) (omega arith)) p u (both 0 (omega arith) (λ e. absurd (omega (arith, e))) (λ e. absurd (omega (arith, e)))) (both FRAME (omega arith) (λ e. absurd (omega (arith, e))) (λ e. absurd (omega (arith, e))))
      (b.memory ∙ a.memory) (values_later 3 (suc value) q m (omega arith) b values_a) in
      let kept_d : (n : ℕ) → n < 32 → n ≢ 5 → after_r (load_slot frame 5 (suc (suc value)) ∷ []) p u n ≡ p n = one_later 5 (suc (suc value)) p u (omega arith) d in
      record {
        safe = (a.safe.0, (b.safe.0, d.safe));
        memory = d.memory ∙ (b.memory ∙ a.memory);
        kept = λ n below not_a not_b not_d. kept_d n below not_d ∙ both n below not_a not_b;
        returned = λ k below.
            three_are k (after_r (load_all frame value (result_registers 3)) r w) below
            (kept_d 2 (omega arith) (λ e. absurd (omega (arith, e))) ∙ (kept_b 2 (omega arith) (λ e. absurd (omega (arith, e))) ∙ (a.result ∙ ap slots (let e : value ≡ value + 0 = omega arith in e))))
            (kept_d 3 (omega arith) (λ e. absurd (omega (arith, e))) ∙ (b.result ∙ ap slots (let e : suc value ≡ value + 1 = omega arith in e)))
            (d.result ∙ ap slots (let e : suc (suc value) ≡ value + 2 = omega arith in e));
      }
  are_loads (suc (suc (suc (suc count)))) few held = absurd (omega (arith, few))

  result_low : (k count : ℕ) → k < count → count ≤ 3 → (result_register k < 17) × (result_register k ≢ FRAME)
  result_low zero count below few = ((omega arith), (λ e. absurd (omega (arith, e))))
  result_low (suc zero) count below few = ((omega arith), (λ e. absurd (omega (arith, e))))
  result_low (suc (suc zero)) count below few = ((omega arith), (λ e. absurd (omega (arith, e))))
  result_low (suc (suc (suc k))) count below few = absurd (omega (arith, below, few))

  -- The module shows that after the loads of the results, callee-saved registers are restored and the frame is popped.
  module _ (base : ℕ) (base_is : r FRAME ≡ base) (top : base + frame_size < 2 ^ 32) (room : frame.first_saved + 7 ≤ 256) (few_saved : frame.saved ≤ 7)
      (cells : (j : ℕ) → j < 7 → IsCell globals stack (base + 4 * (frame.first_saved + j))) where
    are_loaded : (count : ℕ) → count ≤ 3 → ((slot : ℕ) → value ≤ slot → slot < value + count → HeldIn globals stack (value_register frame slot) frame (r FRAME) w r slots slot)
        → AreLoaded globals stack base frame value count r w slots
    are_loaded count few held =
        let loads : List Instr = load_all frame value (result_registers count) in
        let following : List Instr = restores frame ++ pop_frame ∷ [] in
        let load = are_loads count few held in
        let q : Words = after_r loads r w in
        let q_base : after_r loads r w FRAME ≡ base = load.kept FRAME (omega arith) (λ e. absurd (omega (arith, e))) (λ e. absurd (omega (arith, e))) (λ e. absurd (omega (arith, e))) ∙ base_is in
        let restored = are_restored globals stack base frame.first_saved top room cells 0 frame.saved q w q_base (omega (arith, few_saved)) in
        let p : Words = after_r (restores frame) q w in
        let final_is : after_r (loaded frame value count) r w ≡ put p FRAME (add_of (p FRAME) (sign_extended frame_size)) =
        after_r-append loads following r w
        ∙ (ap (λ (m : Contents). after_r following q m) load.memory ∙ after_r-append (restores frame) (pop_frame ∷ []) q w) in
        let memory_is : after_w (loaded frame value count) r w ≡ w =
        after_w-append loads following r w
        ∙ (ap (λ (m : Contents). after_w following q m) load.memory ∙ (after_w-append (restores frame) (pop_frame ∷ []) q w ∙ restored.memory)) in
        let at : (n : ℕ) → n ≢ FRAME → after_r (loaded frame value count) r w n ≡ p n = λ n other. ap (λ (x : Words). x n) final_is ∙ put-other p FRAME n (add_of (p FRAME) (sign_extended frame_size)) other in
        let safe_after : AreSafe globals stack following q w = safe_append globals stack (restores frame) (pop_frame ∷ []) q w restored.safe (refl, tt) in
        let p_base : p FRAME ≡ r FRAME = restored.others FRAME (inr (omega (arith, few_saved))) ∙ (q_base ∙ sym base_is) in
        record {
          safe = safe_append globals stack loads following r w load.safe (subst (λ (m : Contents). AreSafe globals stack following q m) (sym load.memory) safe_after);
          base_moved = ap (λ (x : Words). x FRAME) final_is ∙ (put-same p FRAME (add_of (p FRAME) (sign_extended frame_size)) ∙ ap (λ (x : ℕ). add_of x (sign_extended frame_size)) p_base);
          kept = λ n below aside other.
              at n other
              ∙ (restored.others n (beside n aside)
              ∙ load.kept n below (λ e. absurd (apart n 2 aside e (omega arith) (omega arith))) (λ e. absurd (apart n 3 aside e (omega arith) (omega arith))) (λ e. absurd (apart n 5 aside e (omega arith) (omega arith))));
          unchanged = memory_is;
          returned = λ k below.
              let low = result_low k count below few in
              at (result_register k) low.1 ∙ (restored.others (result_register k) (inl (omega (arith, low.0))) ∙ load.returned k below);
          preserved = λ j high.
              at (17 + j) (λ e. absurd (omega (arith, e, high)))
              ∙ (returned_left globals stack base frame.first_saved top room cells frame.saved q w q_base few_saved j
              ∙ left_same frame.first_saved frame.saved base (preserved_of r) (preserved_of q) w w
              (λ i past small. load.kept (17 + i) (omega (arith, small)) (λ e. absurd (omega (arith, e))) (λ e. absurd (omega (arith, e))) (λ e. absurd (omega (arith, e))))
              (λ i inside small. refl) j high);
        }
      where
        beside : (n : ℕ) → n < 2 ⊎ 24 ≤ n → n < 17 + 0 ⊎ 17 + 0 + frame.saved ≤ n
        beside n (inl low) = inl (omega (arith, low))
        beside n (inr high) = inr (omega (arith, high, few_saved))

        apart : (n k : ℕ) → n < 2 ⊎ 24 ≤ n → n ≡ k → 2 ≤ k → k < 24 → ⊥
        apart n k (inl low) e from below = omega (arith, low, e, from)
        apart n k (inr high) e from below = omega (arith, high, e, below)

-- The module concerns a return from the line on at which the return address is in its register.
module _ (program : Program) (well : IsWellFormed program) (frames : List Frame) (fit : AreFrames program frames) (code : Labelled) (formed : IsFormed code) (addresses : ℕ → ℕ) (pages calls : ℕ) (few : calls ≤ 4096)
    (lie : AreAddresses code addresses) (c : Configuration) (run : labelled.Configuration) (r : Words) (w : Contents) (base back : ℕ) (here : ℕ)
    (now : At program well frames fit code formed addresses pages calls few here c.output c.input r w run)
    (s : Standing program frames addresses pages calls c r w base back (stage_of frames c) c.active.slots) (way_back : r RETURN_ADDRESS ≡ back)
    (i : Instruction) (value : ℕ) (at_i : instruction_at program (states.place_of (states.Running c)) ≡ Some i) (free : calls_nothing i ≡ true)
    (returned_held : (slot : ℕ) → value ≤ slot → slot < value + (routine_at program c.active.function).results
    → HeldIn globals_length (words_per_call * calls) (value_register (frame_at frames c.active.function) slot) (frame_at frames c.active.function) (r FRAME) w r c.active.slots slot)
    (does : performed program zeros c i ≡ returns c value (routine_at program c.active.function).results c.frames) (none_open : c.active.handlers ≡ [])
    (returns_to : (function index callee arguments count result : ℕ) → instruction_at program (record { function = function; index = index }) ≡ Some (plain.Call callee arguments count result)
    → IsReturnPoint code (after_line program frames function index callee arguments count result))
    (stands : Stands code here (ending_code (c.active.function == program.main) (frame_at frames c.active.function) here value ++ ordinary (loaded (frame_at frames c.active.function) value (routine_at program c.active.function).results) ++ lines.Return ∷ [])) where
  abbrev frame : Frame
  frame = frame_at frames c.active.function

  abbrev results : ℕ
  results = (routine_at program c.active.function).results

  abbrev Goes : (least lo hi : ℕ) → State → Type 0
  Goes least lo hi t = Walk code formed addresses globals_length (words_per_call * calls) least lo hi c.output (After program pages calls c) (Reached program well frames fit code formed addresses pages calls few c) t

  abbrev AtLine : ℕ → (q : Words) (m : Contents) → labelled.Configuration → Type 0
  AtLine line q m d = At program well frames fit code formed addresses pages calls few line c.output c.input q m d

  -- ---- the end of the run

  abbrev ends : List Instr
  ends = load_slot frame 4 value ∷ small 2 3 ∷ []

  ends_goes : (hi : ℕ) (d : labelled.Configuration) → here + 4 ≤ hi → c.frames ≡ [] → 0 < results
      → Stands code (here + 1) (ordinary (load_slot frame 4 value ∷ small 2 3 ∷ syscall ∷ [])) → AtLine (here + 1) r w d → Goes 0 (suc here) hi (Running d)
  ends_goes hi d far alone some stands_here later =
      let puts = brings globals_length (words_per_call * calls) frame r w c.active.slots value s.zero_is 4 value refl (returned_held value (omega arith) (omega (arith, some))) r w refl refl refl (λ n low high. refl) in
      let is_returned : performed program zeros c i ≡ states.Ended (Returned (signed (c.active.slots value))) c.output c.input = does ∙ ap (returns c value results) alone in
      walk_few code formed addresses globals_length (words_per_call * calls) 0 (2 + 1) (suc here) hi c.output _ (Running d) (omega arith)
      (walk_block code formed addresses globals_length (words_per_call * calls) ends 1 (here + 1) (suc here) hi c.output c.input _ r w d later
      (stands_front code (here + 1) (ordinary ends) (ordinary (syscall ∷ [])) stands_here) (puts.safe.0, (refl, tt)) (omega arith)
      (λ e after.
      walk_returned code formed addresses globals_length (words_per_call * calls) (here + 1 + 2) (here + 1 + 2) hi c.output c.input _ (after_r ends r w) (after_w ends r w) e after
      (stands_back code (here + 1) (ordinary ends) (ordinary (syscall ∷ [])) stands_here).0 (omega arith) (omega (arith, far))
      (ap (λ (x : ℕ). add_of x (sign_extended 3)) (puts.others 0 (omega arith) (λ e. absurd (omega (arith, e))) ∙ s.zero_is) ∙ add_small 0 3 (omega arith) (omega arith))
      (reached program well frames fit code formed addresses pages calls few c zeros i (states.Ended (Returned (signed (c.active.slots value))) c.output c.input) _ (zeros_at program c i at_i free) at_i is_returned
      (over_within pages (limit_of (Some i) calls) (Returned (signed (c.active.slots value))) c.output c.input)
      (ap (λ (x : ℕ). Ended (Returned (signed x)) c.output c.input) puts.result))))

  -- ---- return to a caller

  back_goes : (line hi : ℕ) (d : labelled.Configuration) (f : states.Frame) (waiting : List states.Frame) → c.frames ≡ f ∷ waiting
      → Chain program frames addresses w base back s.left c.active.function (f ∷ waiting)
      → Stands code line (ordinary (loaded frame value results) ++ lines.Return ∷ []) → line + length (ordinary (loaded frame value results)) + 1 ≤ hi → AtLine line r w d → Goes 1 line hi (Running d)
  back_goes line hi d f waiting under (arguments, count, index, known, at, next, is_back, holds, finds, chain) stands_here far later =
      let size : ℕ = length (loaded frame value results) in
      let same_size = length_ordinary (loaded frame value results) in
      let l = lies program well frames fit addresses pages calls few c r w base back (stage_of frames c) c.active.slots s in
      let routine = well.functions c.active.function no_routine s.known in
      let own = fit.each c.active.function s.known in
      let load = are_loaded globals_length (words_per_call * calls) frame r w c.active.slots value s.zero_is base s.base_is (omega (arith, l.below_end))
      (let last = own.saved_inside 6 (omega arith) in omega (arith, last, own.small)) own.most_saved
      (λ j high. word_cell program well frames fit addresses pages calls few c r w base back (stage_of frames c) c.active.slots s (frame.first_saved + j) (let inside = own.saved_inside j high in omega (arith, inside, own.small)))
      results routine.results returned_held in
      let its : Frame = frame_at frames f.caller.function in
      let gives : (j : ℕ) → j < 7 → after_r (loaded frame value results) r w (17 + j) ≡ s.left j = λ j high. load.preserved j high ∙ s.leaves j high in
      let aside : (n : ℕ) → n < 32 → n < 2 ⊎ 24 ≤ n → n ≢ FRAME → after_r (loaded frame value results) r w n ≡ r n = load.kept in
      let q : Words = after_r (loaded frame value results) r w in
      let above : ℕ = base + frame_size in
      let next_state : Configuration = record c {
        active = record f.caller { slots = copied c.active.slots value results f.caller.slots f.result };
        frames = waiting;
      } in
      let is_returned : performed program zeros c i ≡ states.Running next_state = does ∙ ap (returns c value results) under in
      let base_is : after_r (loaded frame value results) r w FRAME ≡ above =
      load.base_moved ∙ (ap (λ (x : ℕ). add_of x (sign_extended frame_size)) s.base_is
      ∙ add_small base frame_size (omega arith) (omega (arith, l.below_end))) in
      let deep : suc (suc (length waiting)) ≤ calls = subst (λ (fs : List states.Frame). suc (length fs) ≤ calls) under s.deep in
      let own_newest : IsNewest program frames addresses (r HANDLERS) base c.active.function [] (f ∷ waiting) =
      subst (λ (hs : List states.Handler). IsNewest program frames addresses (r HANDLERS) base c.active.function hs (f ∷ waiting)) none_open
      (subst (λ (fs : List states.Frame). IsNewest program frames addresses (r HANDLERS) base c.active.function c.active.handlers fs) under s.newest) in
      let back_newest : IsNewest program frames addresses (after_r (loaded frame value results) r w HANDLERS) above f.caller.function f.caller.handlers waiting =
      subst (λ (n : ℕ). IsNewest program frames addresses n above f.caller.function f.caller.handlers waiting) (sym (aside HANDLERS (omega arith) (inr (omega arith)) (λ e. absurd (omega (arith, e))))) own_newest in
      let there : Standing program frames addresses pages calls next_state (after_r (loaded frame value results) r w) w above (w.words (above + 4 * (frame_at frames f.caller.function).return_address)) (under_way true) f.caller.slots = record {
        known = known;
        base_is = base_is;
        zero_is = aside 0 (omega arith) (inl (omega arith)) (λ e. absurd (omega (arith, e))) ∙ s.zero_is;
        lowest = ap (λ (n : ℕ). n + frame_size * calls) (aside LOWEST (omega arith) (inr (omega arith)) (λ e. absurd (omega (arith, e)))) ∙ s.lowest;
        deep = omega (arith, deep);
        holds = holds;
        left = LeftBy its above s.left w;
        chain = chain;
        leaves = λ j high.
            left_same its.first_saved its.saved above s.left (preserved_of (after_r (loaded frame value results) r w)) w w (λ i past small. gives i small) (λ i below small. refl) j high;
        newest = back_newest;
        way = refl;
        globals = s.globals;
        input = s.input;
        based = (subst (λ (fs : List states.Frame). AreBased frames base c.active.function c.active.base fs) under s.based).1;
        store = s.store;
        laid = s.laid;
        counted = aside REGIONS (omega arith) (inr (omega arith)) (λ e. absurd (omega (arith, e))) ∙ s.counted;
        middle = aside GLOBALS (omega arith) (inr (omega arith)) (λ e. absurd (omega (arith, e))) ∙ s.middle;
      } in
      walk_few code formed addresses globals_length (words_per_call * calls) 1 (size + 1) line hi c.output _ (Running d) (omega arith)
      (walk_block code formed addresses globals_length (words_per_call * calls) (loaded frame value results) 1 line line hi c.output c.input _ r w d later
      (stands_front code line (ordinary (loaded frame value results)) (lines.Return ∷ []) stands_here) load.safe (omega arith)
      (λ e after.
      walk_return code formed addresses globals_length (words_per_call * calls) 0 (line + size) (line + size) hi c.output c.input _ (after_r (loaded frame value results) r w) (after_w (loaded frame value results) r w) e
      (after_line program frames f.caller.function index c.active.function arguments count f.result) lie after
      (subst (λ (n : ℕ). slice_get code.lines (line + n) ≡ Some lines.Return) same_size (stands_back code line (ordinary (loaded frame value results)) (lines.Return ∷ []) stands_here).0)
      (omega arith) (returns_to f.caller.function index c.active.function arguments count f.result at) (aside RETURN_ADDRESS (omega arith) (inr (omega arith)) (λ e. absurd (omega (arith, e))) ∙ (way_back ∙ is_back))
      (λ g returned.
      walk_end code formed addresses globals_length (words_per_call * calls) (suc (line + size)) hi c.output _ (Running g) (omega (arith, far, same_size))
      (reached program well frames fit code formed addresses pages calls few c zeros i (states.Running next_state) (Running g) (zeros_at program c i at_i free) at_i is_returned
      (ap (λ (n : ℕ). is_within pages n (states.Running next_state)) (limit_free i calls free) ∙ within program well frames fit code formed addresses pages calls few next_state s.laid.paged (omega (arith, deep)))
      (inr (inl (record {
        run = g;
        r = after_r (loaded frame value results) r w;
        w = w;
        base = above;
        index = index;
        callee = c.active.function;
        arguments = arguments;
        count = count;
        result = f.result;
        waiting = f.caller.slots;
        values = c.active.slots;
        first = value;
        is = refl;
        next = next;
        call = at;
        now = subst (λ (m : Contents). AtLine (after_line program frames f.caller.function index c.active.function arguments count f.result) (after_r (loaded frame value results) r w) m g) load.unchanged returned;
        standing = there;
        returned = load.returned;
        finds = λ slot j high has unwritten live. gives j high ∙ finds slot j high has unwritten live;
        slots = refl;
      })))))))

  few_results : results ≤ 3
  few_results = (well.functions c.active.function no_routine s.known).results

  loaded_length : length (ordinary (loaded frame value results)) ≡ results + frame.saved + 1
  loaded_length = length_ordinary (loaded frame value results) ∙ length_loaded frame value results few_results

  -- Returns the last lines of a return: they load the results, restore the saved registers, if any, pop the frame and jump to the caller.
  abbrev tail : List Line
  tail = ordinary (loaded frame value results) ++ lines.Return ∷ []

  plain_goes : (c.active.function == program.main) ≡ false → Stands code here tail → (fs : List states.Frame) → c.frames ≡ fs → Chain program frames addresses w base back s.left c.active.function fs → Goes 1 here (here + (0 + (results + frame.saved + 2))) (Running run)
  plain_goes other stands_here [] under (last, is_back, is_main) = absurd (let e : false ≡ true = sym other ∙ eq-eqb c.active.function program.main is_main in cc)
  plain_goes other stands_here (f ∷ waiting) under chain =
      back_goes here (here + (0 + (results + frame.saved + 2))) run f waiting under chain stands_here (omega (arith, loaded_length)) now

  main_goes : (c.active.function == program.main) ≡ true → Stands code here (ending_code true frame here value ++ tail) → (fs : List states.Frame) → c.frames ≡ fs → Chain program frames addresses w base back s.left c.active.function fs → Goes 1 here (here + (4 + (results + frame.saved + 2))) (Running run)
  main_goes main stands_here [] under (last, is_back, is_main) =
      let stays : (if not (r RETURN_ADDRESS == r 0) then here + 4 else here + 1) ≡ here + 1 = ap (λ (b : Bool). if not b then here + 4 else here + 1) (eq-eqb (r RETURN_ADDRESS) (r 0) (way_back ∙ (is_back ∙ sym s.zero_is))) in
      let one : results ≡ 1 = ap (λ (f : ℕ). (routine_at program f).results) is_main ∙ well.main_results in
      walk_branch code formed addresses globals_length (words_per_call * calls) 0 here here (here + (4 + (results + frame.saved + 2))) c.output c.input _ r w run (conditions.Registers branch.NotEqual (register_of RETURN_ADDRESS) (register_of 0)) (here + 4) (here + 1) now stands_here.0 (omega arith) stays
      (λ d later.
      ends_goes (here + (4 + (results + frame.saved + 2))) d (omega arith) under (omega (arith, one))
      (stands_front code (here + 1) (ordinary (load_slot frame 4 value ∷ small 2 3 ∷ syscall ∷ [])) tail
      (stands_back code here (lines.Branch (conditions.Registers branch.NotEqual (register_of RETURN_ADDRESS) (register_of 0)) (here + 4) ∷ []) (ordinary (load_slot frame 4 value ∷ small 2 3 ∷ syscall ∷ []) ++ tail) stands_here))
      later)
  main_goes main stands_here (f ∷ waiting) under (arguments, count, index, known, at, next, is_back, holds, finds, chain) =
      let line : ℕ = after_line program frames f.caller.function index c.active.function arguments count f.result in
      let high = lie.from (after_line program frames f.caller.function index c.active.function arguments count f.result) (returns_to f.caller.function index c.active.function arguments count f.result at).inside in
      let other : r RETURN_ADDRESS ≢ r 0 = λ e. absurd (omega (arith, e, s.zero_is, way_back, is_back, high)) in
      let leaps : (if not (r RETURN_ADDRESS == r 0) then here + 4 else here + 1) ≡ here + 4 = ap (λ (b : Bool). if not b then here + 4 else here + 1) (ne_eqb (r RETURN_ADDRESS) (r 0) other) in
      walk_branch code formed addresses globals_length (words_per_call * calls) 0 here here (here + (4 + (results + frame.saved + 2))) c.output c.input _ r w run (conditions.Registers branch.NotEqual (register_of RETURN_ADDRESS) (register_of 0)) (here + 4) (here + 4) now stands_here.0 (omega arith) leaps
      (λ d later.
      walk_from code formed addresses globals_length (words_per_call * calls) 0 (suc here) (here + 4) (here + (4 + (results + frame.saved + 2))) c.output _ (Running d) (omega arith)
      (walk_few code formed addresses globals_length (words_per_call * calls) 0 1 (here + 4) (here + (4 + (results + frame.saved + 2))) c.output _ (Running d) (omega arith)
      (back_goes (here + 4) (here + (4 + (results + frame.saved + 2))) d f waiting under (arguments, count, index, known, at, next, is_back, holds, finds, chain)
      (stands_back code here (ending_code true frame here value) tail stands_here) (omega (arith, loaded_length)) later)))

  pub returning_goes : Goes 1 here (here + (ending_count program c.active.function + (results + frame.saved + 2))) (Running run)
  returning_goes = elim (cases_Bool (c.active.function == program.main)) [
    | inl main ↦
        subst (λ (n : ℕ). Goes 1 here (here + (n + (results + frame.saved + 2))) (Running run)) (sym (ap (λ (b : Bool). if b then 4 else 0) main))
        (main_goes main (subst (λ (b : Bool). Stands code here (ending_code b frame here value ++ ordinary (loaded frame value results) ++ lines.Return ∷ [])) main stands) c.frames refl s.chain)
    | inr other ↦
        subst (λ (n : ℕ). Goes 1 here (here + (n + (results + frame.saved + 2))) (Running run)) (sym (ap (λ (b : Bool). if b then 4 else 0) other))
        (plain_goes other (subst (λ (b : Bool). Stands code here (ending_code b frame here value ++ ordinary (loaded frame value results) ++ lines.Return ∷ [])) other stands) c.frames refl s.chain)
  ]
