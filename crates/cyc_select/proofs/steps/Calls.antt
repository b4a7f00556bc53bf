-- The simulation of calls: the callee's frame lies below the caller's, or the run ends if the stack has no space for it.
use Rattle.std.proofs.Common.{◌≡◌, ◌≢◌, ℕ, suc, ◌+◌, ◌-◌, ◌*◌, ◌%◌, ◌<◌, ◌≤◌, Bool, true, false, not, List, [], ◌∷◌, ◌++◌, length, Option, Some, None, slice_get, refl, sym, ap, subst, ◌∙◌, arith, inl, inr}
use Rattle.std.specs.Prelude.{◌==◌, if◌then◌else◌, nat_le}
use Rattle.std.proofs.lemmas.Bool.{cases_eq, cases_lt, eq-eqb, ne_eqb, and_right, lt-leb}
use Rattle.cyc_plain.specs.declared.limits.TheConstants.{MOST_FRAME_WORDS}
use Rattle.cyc_select.specs.declared.constants.TheConstants.{FRAME, LOWEST, HANDLERS, REGIONS, GLOBALS}
use Rattle.cyc_machine_model.specs.declared.constants.TheConstants.{RETURN_ADDRESS}
use Rattle.cyc_words.specs.Ending.{Full}
use Rattle.cyc_words.specs.Word.{IsWord, add_of, sign_extended}
use Rattle.cyc_isa.specs.declared.instr.Instr.{Instr}
use Rattle.cyc_isa.specs.declared.instr.BranchOp.TheVariants as branch
use Rattle.cyc_isa.specs.Decoding.{register_of}
use Rattle.cyc_machine_model.specs.State.{data_base, stack_end, globals_length, words_per_call}
use Rattle.cyc_store.specs.State.{demand}
use Rattle.cyc_plain.specs.declared.instruction.Instruction.{Instruction}
use Rattle.cyc_plain.specs.declared.instruction.Instruction.TheVariants as plain
use Rattle.cyc_plain.specs.inside.Memory.{IsBelow}
use Rattle.cyc_plain.specs.inside.Program.{Program, no_routine, routine_at}
use Rattle.cyc_plain.specs.inside.State as states
use Rattle.cyc_plain.specs.inside.State.{Words, put, copied, Configuration}
use Rattle.cyc_plain.specs.inside.Step.{Choice, instruction_at, performed, executed, advanced, step, is_within, limit_of, limited, callee_of}
use Rattle.cyc_plain.specs.inside.WellFormed.{IsWellFormed, IsCallInRange}
use Rattle.cyc_plain.proofs.RunLaws.{zeros, limited-full, called_at}
use Rattle.cyc_plain.proofs.SlotLaws.{put-other, copied-inside, copied-above}
use Rattle.cyc_registers.specs.inside.Interference.{AreHomes}
use Rattle.cyc_registers.specs.inside.Liveness.{IsLiveAt}
use Rattle.cyc_frame.specs.inside.Layout.{AreFrames, frame_at, slot_word}
use Rattle.cyc_frame.specs.inside.Frame.{Frame}
use Rattle.cyc_select.specs.declared.code.Line.{Line}
use Rattle.cyc_select.specs.declared.code.Condition.TheVariants as conditions
use Rattle.cyc_select.specs.declared.code.Line.TheVariants as lines
use Rattle.cyc_select.specs.inside.Labelled.{Labelled, IsFormed, AreAddresses}
use Rattle.cyc_select.specs.inside.Machine as labelled
use Rattle.cyc_select.specs.inside.Machine.{State, Running, Ended}
use Rattle.cyc_select.specs.inside.Instructions.{slot_offset, minus, small, syscall}
use Rattle.cyc_select.specs.inside.Slots.{coming, value_register, is_kept, push_frame}
use Rattle.cyc_select.specs.inside.Passing.{passed_from, copies_count, copies}
use Rattle.cyc_select.specs.inside.Counts.{function_line}
use Rattle.cyc_select.specs.inside.Selection.{ordinary, calling_code}
use Rattle.cyc_select.proofs.relation.Cells.{IsCell}
use Rattle.cyc_select.proofs.emission.Counts.{length_copies}
use Rattle.cyc_select.proofs.values.Operations.{add_small, take_small}
use Rattle.cyc_select.proofs.relation.Arriving.{came_in, comes_to_memory}
use Rattle.cyc_select.proofs.effects.Views.{Contents}
use Rattle.cyc_select.proofs.effects.Sequences.{Stands, stands_front, stands_back, after_r, after_w}
use Rattle.cyc_select.proofs.effects.Walks.{Walk, walk_end, walk_few, walk_block, walk_branch, walk_call, walk_full}
use Rattle.cyc_select.proofs.steps.Copies.{Copied, copied_all}
use Rattle.cyc_select.proofs.relation.Waiting.{left_past, left_same, LeftBy, Finds, preserved_of, frame_size, Holds, Chain, IsNewest, after_line, IsBack, saves_at, chain_kept, AreBased, based_here, slots_fit}
use Rattle.cyc_select.proofs.relation.Standing.{entering, Standing, stage_of, lies, slot_inside, word_cell}
use Rattle.cyc_select.proofs.relation.Matches.{After, At, Reached, reached, within}

pub length_ordinary : (is : List Instr) → length (ordinary is) ≡ length is
length_ordinary [] = refl
length_ordinary (i ∷ is) = ap suc (length_ordinary is)

-- The last line of a call's code is the jump to the callee.
pub call_last : (code : Labelled) (caller callee : Frame) (here label arguments count : ℕ) → Stands code here (calling_code caller callee here label arguments count)
    → slice_get code.lines (here + 4 + copies_count caller callee arguments 0 count) ≡ Some (lines.Call label)
call_last code caller callee here label arguments count stands =
    let passed : List Instr = copies caller callee arguments 0 count in
    let entry : List Instr = small 2 11 ∷ syscall ∷ push_frame ∷ [] in
    let at_passed : Stands code (here + 4) (ordinary passed ++ lines.Call label ∷ []) =
    stands_back code here (lines.Branch (conditions.Registers branch.NotEqual (register_of FRAME) (register_of LOWEST)) (here + 3) ∷ ordinary entry) (ordinary passed ++ lines.Call label ∷ []) stands in
    let long : length (ordinary passed) ≡ copies_count caller callee arguments 0 count = length_ordinary passed ∙ length_copies caller callee arguments 0 count in
    subst (λ (n : ℕ). slice_get code.lines (here + 4 + n) ≡ Some (lines.Call label)) long (stands_back code (here + 4) (ordinary passed) (lines.Call label ∷ []) at_passed).0

module _ (program : Program) (well : IsWellFormed program) (frames : List Frame) (fit : AreFrames program frames) (code : Labelled) (formed : IsFormed code) (addresses : ℕ → ℕ) (pages calls : ℕ) (few : calls ≤ 4096)
    (lie : AreAddresses code addresses) (c : Configuration) (run : labelled.Configuration) (r : Words) (w : Contents) (base back : ℕ)
    (here : ℕ) (now : At program well frames fit code formed addresses pages calls few here c.output c.input r w run)
    (s : Standing program frames addresses pages calls c r w base back (stage_of frames c) c.active.slots)
    (callee arguments count result : ℕ) (at_i : instruction_at program (states.place_of (states.Running c)) ≡ Some (plain.Call callee arguments count result))
    (in_range : IsCallInRange program (routine_at program c.active.function) callee arguments count result)
    (inside : after_line program frames c.active.function c.active.next callee arguments count result < length code.lines)
    (stands : Stands code here (calling_code (frame_at frames c.active.function) (coming (frame_at frames callee)) here (function_line program frames callee) arguments count))
    (here_is : here + (5 + copies_count (frame_at frames c.active.function) (coming (frame_at frames callee)) arguments 0 count) ≡ after_line program frames c.active.function c.active.next callee arguments count result)
    (there : (slot : ℕ) → slot < count → passed_from (frame_at frames c.active.function) (coming (frame_at frames callee)) (arguments + slot) slot ≡ None
    → w.words (base + slot_offset (frame_at frames c.active.function) (arguments + slot)) ≡ c.active.slots (arguments + slot))
    (held : (slot k : ℕ) → slot < count → passed_from (frame_at frames c.active.function) (coming (frame_at frames callee)) (arguments + slot) slot ≡ Some k
    → (6 ≤ k) × (k < 24) × (r k ≡ c.active.slots (arguments + slot)) × IsWord (c.active.slots (arguments + slot)))
    (finds : Finds program frames c.active.function c.active.next callee arguments count result (preserved_of r) c.active.slots) where
  abbrev mine : Frame
  mine = frame_at frames c.active.function

  -- Returns the callee's frame in which each parameter has the home (register or memory) in which callers pass it.
  abbrev its : Frame
  its = coming (frame_at frames callee)

  abbrev Goes : (least lo hi : ℕ) → State → Type 0
  Goes least lo hi t = Walk code formed addresses globals_length (words_per_call * calls) least lo hi c.output (After program pages calls c) (Reached program well frames fit code formed addresses pages calls few c) t

  abbrev AtLine : ℕ → (q : Words) (m : Contents) → labelled.Configuration → Type 0
  AtLine line q m d = At program well frames fit code formed addresses pages calls few line c.output c.input q m d

  abbrev entry : List Instr
  entry = push_frame ∷ []

  abbrev passed : List Instr
  passed = copies mine its arguments 0 count

  abbrev call_line : List Line
  call_line = lines.Call (function_line program frames callee) ∷ []

  -- The MIPS lines that end a run on a full stack stand at the line after the first line of a call.
  at_full : Stands code (here + 1) (ordinary (small 2 11 ∷ syscall ∷ []))
  at_full =
      stands_front code (here + 1) (ordinary (small 2 11 ∷ syscall ∷ [])) (ordinary entry ++ (ordinary passed ++ call_line))
      (stands_back code here (lines.Branch (conditions.Registers branch.NotEqual (register_of FRAME) (register_of LOWEST)) (here + 3) ∷ []) (ordinary (small 2 11 ∷ syscall ∷ entry) ++ (ordinary passed ++ call_line)) stands)

  at_entry : Stands code (here + 3) (ordinary entry ++ (ordinary passed ++ call_line))
  at_entry = stands_back code here (lines.Branch (conditions.Registers branch.NotEqual (register_of FRAME) (register_of LOWEST)) (here + 3) ∷ ordinary (small 2 11 ∷ syscall ∷ [])) (ordinary entry ++ (ordinary passed ++ call_line)) stands

  at_passed : Stands code (here + 3 + 1) (ordinary passed ++ call_line)
  at_passed = stands_back code (here + 3) (ordinary entry) (ordinary passed ++ call_line) at_entry

  at_call : slice_get code.lines (here + 3 + 1 + length passed) ≡ Some (lines.Call (function_line program frames callee))
  at_call =
      subst (λ (n : ℕ). slice_get code.lines (here + 3 + 1 + n) ≡ Some (lines.Call (function_line program frames callee))) (length_ordinary passed)
      (stands_back code (here + 3 + 1) (ordinary passed) call_line at_passed).0

  -- The homes (register or memory) that the callee's frame assigns to the callee's slots satisfy `AreHomes`.
  its_right : AreHomes program (routine_at program callee) (frame_at frames callee).saved (frame_at frames callee).homes
  its_right = fit.homes callee in_range.function_in_range

  -- ---- no room for the call

  place_is : c.active.base ≡ base + 4 * mine.first_slot
  place_is = based_here frames base c.active.function c.active.base c.frames s.based

  here_lies : (base + frame_size ≤ stack_end) × (base + frame_size * suc (length c.frames) ≡ stack_end) × (base % 4 ≡ 0)
  here_lies =
      let l = lies program well frames fit addresses pages calls few c r w base back (stage_of frames c) c.active.slots s in
      (l.below_end, l.above_low, l.aligned)

  -- Below the caller's frame, the stack has space for the slots of the callee.
  room_below : IsBelow program callee (c.active.base - 4 * (routine_at program callee).slots) c.active.base
  room_below =
      let fits = slots_fit (routine_at program callee) (frame_at frames callee) (fit.each callee in_range.function_in_range) in
      record {
        aligned = omega (arith, place_is, here_lies.2, here_lies.1, s.deep, fits);
        low = omega (arith, place_is, here_lies.1, s.deep, fits);
        high = omega (arith, place_is, here_lies.1, s.deep, fits);
      }

  full_step : r FRAME ≡ r LOWEST → Reached program well frames fit code formed addresses pages calls few c (Ended Full c.output c.input)
  full_step lowest =
      let choice : Choice = record zeros { base = c.active.base - 4 * (routine_at program callee).slots } in
      let deep : nat_le (suc (suc (length c.frames))) calls ≡ false = lt-leb (suc (suc (length c.frames))) calls (omega (arith, lowest, s.base_is, s.lowest, here_lies.1)) in
      let over : is_within pages calls (performed program choice c (plain.Call callee arguments count result)) ≡ false = and_right (nat_le (demand c.store) pages) _ deep in
      let is : step program choice (states.Running c) ≡ performed program choice c (plain.Call callee arguments count result) = ap (executed program choice c) at_i in (
        states.Ended Full c.output c.input,
        (choice, called_at program c callee choice (ap callee_of at_i) (λ slot. omega arith) room_below, sym (ap (λ (o : Option Instruction). limited pages (limit_of o calls) (states.Running c) (step program choice (states.Running c))) at_i ∙ limited-full pages calls (states.Running c) (step program choice (states.Running c)) (ap (is_within pages calls) is ∙ over))),
        refl,
      )

  full_goes : (d : labelled.Configuration) → r FRAME ≡ r LOWEST → AtLine (here + 1) r w d → Goes 0 (suc here) (here + (5 + copies_count (frame_at frames c.active.function) (coming (frame_at frames callee)) arguments 0 count)) (Running d)
  full_goes d lowest later =
      walk_few code formed addresses globals_length (words_per_call * calls) 0 (1 + 1) (suc here) (here + (5 + copies_count (frame_at frames c.active.function) (coming (frame_at frames callee)) arguments 0 count)) c.output _ (Running d) (omega arith)
      (walk_block code formed addresses globals_length (words_per_call * calls) (small 2 11 ∷ []) 1 (here + 1) (suc here) (here + (5 + copies_count (frame_at frames c.active.function) (coming (frame_at frames callee)) arguments 0 count)) c.output c.input _ r w d later (at_full.0, tt) (refl, tt) (omega arith)
      (λ e after.
      walk_full code formed addresses globals_length (words_per_call * calls) (here + 1 + 1) (here + 1 + 1) (here + (5 + copies_count (frame_at frames c.active.function) (coming (frame_at frames callee)) arguments 0 count)) c.output c.input _ (after_r (small 2 11 ∷ []) r w) w e after at_full.1.0 (omega arith) (omega arith)
      (ap (λ (x : ℕ). add_of x (sign_extended 11)) s.zero_is ∙ add_small 0 11 (omega arith) (omega arith))
      (full_step lowest)))

  -- ---- a new frame

  abbrev low : ℕ
  low = base - frame_size

  low_is : low + frame_size ≡ base
  low_is = omega (arith, here_lies.1, s.deep)

  module _ (above_lowest : r FRAME ≢ r LOWEST) where
    not_all : suc (length c.frames) ≢ calls
    not_all all = above_lowest (omega (arith, all, s.base_is, s.lowest, here_lies.1))

    deeper : suc (suc (length c.frames)) ≤ calls
    deeper = omega (arith, s.deep, not_all)

    abbrev r1 : Words
    r1 = after_r entry r w

    entered_base : r1 FRAME ≡ low
    entered_base =
        ap (λ (x : ℕ). add_of x (sign_extended (minus frame_size))) s.base_is
        ∙ take_small base frame_size (omega (arith, here_lies.0)) (omega arith) (omega arith) (omega (arith, low_is))

    -- Each argument that is not passed from a register is still in the caller's frame when it is passed.
    argument_there : (slot : ℕ) → slot < count → passed_from mine its (arguments + slot) (0 + slot) ≡ None → w.words (base + slot_offset mine (arguments + slot)) ≡ c.active.slots (arguments + slot)
    argument_there slot below none = there slot below (ap (passed_from mine its (arguments + slot)) (let e : slot ≡ 0 + slot = omega arith in e) ∙ none)

    argument_held : (slot k : ℕ) → slot < count → passed_from mine its (arguments + slot) (0 + slot) ≡ Some k
        → (6 ≤ k) × (k < 24) × (r1 k ≡ c.active.slots (arguments + slot)) × IsWord (c.active.slots (arguments + slot))
    argument_held slot k below some =
        let (k_low, high, is, fits) = held slot k below (ap (passed_from mine its (arguments + slot)) (let e : slot ≡ 0 + slot = omega arith in e) ∙ some) in
        (k_low, high, put-other r FRAME k _ (λ e. absurd (omega (arith, e, high))) ∙ is, fits)

    callee_cell : (word : ℕ) → word < MOST_FRAME_WORDS → IsCell globals_length (words_per_call * calls) (low + 4 * word)
    callee_cell word below = inr ((omega (arith, low_is, here_lies.2)), (omega (arith, low_is, here_lies.1, deeper)), (omega (arith, low_is, here_lies.0, below)))

    caller_cell : (slot : ℕ) → slot < (routine_at program c.active.function).slots → IsCell globals_length (words_per_call * calls) (base + slot_offset mine slot)
    caller_cell slot below = word_cell program well frames fit addresses pages calls few c r w base back (stage_of frames c) c.active.slots s (slot_word mine slot) (slot_inside program well frames fit addresses pages calls few c r w base back (stage_of frames c) c.active.slots s slot below)

    copied_now : Copied globals_length (words_per_call * calls) mine its low base c.active.slots arguments 0 count r1 w
    copied_now =
        let frame = fit.each callee in_range.function_in_range in
        let own = fit.each c.active.function s.known in
        copied_all globals_length (words_per_call * calls) mine its (routine_at program c.active.function).slots (routine_at program callee).slots low base low_is
        (omega (arith, here_lies.0)) (λ slot below. omega (arith, own.inside slot below, own.small)) (λ slot below. omega (arith, frame.inside slot below, frame.small)) frame.apart
        caller_cell (λ slot below. callee_cell (slot_word its slot) (omega (arith, frame.inside slot below, frame.small))) (λ slot k has. its_right.low slot k (came_in (frame_at frames callee) slot k has).0) (λ slot k has. its_right.high slot k (came_in (frame_at frames callee) slot k has).0)
        c.active.slots arguments 0 count r1 w s.zero_is entered_base in_range.arguments_in_range
        (let takes = in_range.takes in let parameters = (well.functions callee no_routine in_range.function_in_range).parameters in omega (arith, takes, parameters))
        argument_there argument_held

    abbrev r2 : Words
    r2 = after_r passed r1 w

    abbrev w2 : Contents
    w2 = after_w passed r1 w

    abbrev r3 : Words
    r3 = put r2 RETURN_ADDRESS (addresses (here + 3 + 1 + length passed + 1))

    -- Returns the choice of the initial values of the callee's slots: the words that the callee's frame already contains.
    abbrev choice : Choice
    choice = record { contents = λ (slot : ℕ). w2.words (low + slot_offset its slot); base = low + 4 * its.first_slot; serving = zeros.serving }

    abbrev entered : Configuration
    entered = record c {
      active = record { function = callee; next = 0; base = low + 4 * its.first_slot; slots = copied c.active.slots arguments count choice.contents 0; handlers = [] };
      frames = record { caller = (advanced c).active; result = result } ∷ c.frames;
    }

    line_is : here + 3 + 1 + length passed + 1 ≡ after_line program frames c.active.function c.active.next callee arguments count result
    line_is = omega (arith, length_copies mine its arguments 0 count, here_is)

    above_kept : (a : ℕ) → base ≤ a → w2.words a ≡ w.words a
    above_kept a over = copied_now.outside a (inr over)

    -- After the arguments are passed, the callee-saved registers are as in the caller, since no argument arrives in one.
    preserved_same : (j : ℕ) → j < 7 → r3 (17 + j) ≡ r (17 + j)
    preserved_same j high =
        put-other r2 RETURN_ADDRESS (17 + j) (addresses (here + 3 + 1 + length passed + 1)) (λ e. absurd (omega (arith, e, high)))
        ∙ (copied_now.spares (17 + j) (omega arith) (omega (arith, high)) (λ i below has. absurd (unpassed i j below has))
        ∙ put-other r FRAME (17 + j) _ (λ e. absurd (omega (arith, e, high))))
      where
        unpassed : (i j : ℕ) → i < count → value_register its (0 + i) ≡ Some (17 + j) → ⊥
        unpassed i j below has = (let low = (came_in (frame_at frames callee) (0 + i) (17 + j) has).1 in omega (arith, low))

    -- The words that the caller leaves in callee-saved registers are unchanged if the callee leaves these registers as they were.
    own_left_is : (j : ℕ) → j < 7 → LeftBy mine base (preserved_of r3) w2 j ≡ s.left j
    own_left_is j high =
        left_same mine.first_saved mine.saved base (preserved_of r) (preserved_of r3) w w2 (λ i past small. preserved_same i small)
        (λ i below small. above_kept (base + 4 * (mine.first_saved + i)) (omega arith)) j high
        ∙ s.leaves j high

    own_chain : Chain program frames addresses w2 base back (LeftBy mine base (preserved_of r3) w2) c.active.function c.frames
    own_chain = chain_kept program frames fit addresses w w2 base back s.left (LeftBy mine base (preserved_of r3) w2) c.active.function c.frames (λ a over. above_kept a (omega (arith, over))) own_left_is s.chain

    -- The return address of the caller is in the caller's frame.
    saved_is : w2.words (base + 4 * mine.return_address) ≡ back
    saved_is =
        let saved = saves_at program frames fit c.active.function c.active.next (plain.Call callee arguments count result) s.known at_i refl in
        above_kept (base + 4 * mine.return_address) (omega arith) ∙ subst (λ (b : Bool). IsBack b mine r w base back) saved s.way

    new_holds : Holds program frames callee low w2 (copied c.active.slots arguments count choice.contents 0)
    new_holds slot below slot_kept = elim (cases_lt slot count) [
      | inl argument ↦
          let zero_slot : slot ≡ 0 + slot = omega arith in
          ap (λ (x : ℕ). w2.words (low + slot_offset its x)) zero_slot
          ∙ (copied_now.inside slot argument (ap (is_kept its) (sym zero_slot) ∙ comes_to_memory (frame_at frames callee) slot slot_kept)
          ∙ sym (ap (copied c.active.slots arguments count choice.contents 0) zero_slot ∙ copied-inside c.active.slots choice.contents arguments count 0 slot argument))
      | inr new ↦ sym (copied-above c.active.slots choice.contents arguments count 0 slot (omega (arith, new)))
    ]

    new_chain : Chain program frames addresses w2 low (r3 RETURN_ADDRESS) (preserved_of r3) callee (record { caller = (advanced c).active; result = result } ∷ c.frames)
    new_chain = (
      arguments,
      count,
      c.active.next,
      s.known,
      at_i,
      refl,
      ap addresses line_is,
      subst (λ (b : ℕ). Holds program frames c.active.function b w2 c.active.slots) (sym low_is)
          (λ slot below slot_kept. above_kept (base + slot_offset mine slot) (omega arith) ∙ s.holds slot below slot_kept),
      (λ slot j high has unwritten live. preserved_same j high ∙ finds slot j high has unwritten live),
      subst (λ (b : ℕ). Chain program frames addresses w2 b (w2.words (b + 4 * mine.return_address)) (LeftBy mine b (preserved_of r3) w2) c.active.function c.frames) (sym low_is)
          (subst (λ (x : ℕ). Chain program frames addresses w2 base x (LeftBy mine base (preserved_of r3) w2) c.active.function c.frames) (sym saved_is) own_chain),
    )

    newest_same : r3 HANDLERS ≡ r HANDLERS
    newest_same = copied_now.kept HANDLERS (inr (omega arith))

    entered_newest : IsNewest program frames addresses (r3 HANDLERS) low callee [] (record { caller = (advanced c).active; result = result } ∷ c.frames)
    entered_newest =
        subst (λ (b : ℕ). IsNewest program frames addresses (r3 HANDLERS) b c.active.function c.active.handlers c.frames) (sym low_is)
        (subst (λ (n : ℕ). IsNewest program frames addresses n base c.active.function c.active.handlers c.frames) (sym newest_same) s.newest)

    entered_stands : Standing program frames addresses pages calls entered r3 w2 low (r3 RETURN_ADDRESS) entering (copied c.active.slots arguments count choice.contents 0)
    entered_stands = record {
      known = in_range.function_in_range;
      base_is = copied_now.kept FRAME (inr (omega arith)) ∙ entered_base;
      zero_is = copied_now.kept 0 (inl (omega arith)) ∙ s.zero_is;
      lowest = ap (λ (n : ℕ). n + frame_size * calls) (copied_now.kept LOWEST (inr (omega arith))) ∙ s.lowest;
      deep = deeper;
      holds = new_holds;
      left = preserved_of r3;
      chain = new_chain;
      leaves = λ j high. left_past its.first_saved 0 low (preserved_of r3) w2 j (omega arith);
      newest = entered_newest;
      way = refl;
      based = (refl, subst (λ (b : ℕ). AreBased frames b c.active.function c.active.base c.frames) (sym low_is) s.based);
      globals = λ global below. copied_now.outside (data_base + 4 * global) (inl (omega (arith, below, well.globals, low_is, here_lies.1, deeper))) ∙ s.globals global below;
      input = s.input;
      store = copied_now.store ∙ s.store;
      laid = s.laid;
      counted = copied_now.kept REGIONS (inr (omega arith)) ∙ s.counted;
      middle = copied_now.kept GLOBALS (inr (omega arith)) ∙ s.middle;
    }

    -- After a call, each live parameter is in the register in which it arrives.
    entered_caches : (slot k : ℕ) → value_register its slot ≡ Some k → IsLiveAt program (routine_at program callee) slot 0 → r3 k ≡ copied c.active.slots arguments count choice.contents 0 slot
    entered_caches slot k comes wanted =
        let has = (came_in (frame_at frames callee) slot k comes).0 in
        let below : slot < count = (let takes = in_range.takes in omega (arith, takes, its_right.entry slot k has wanted)) in
        let zero_slot : slot ≡ 0 + slot = omega arith in
        put-other r2 RETURN_ADDRESS k (addresses (here + 3 + 1 + length passed + 1)) (λ e. absurd (omega (arith, e, its_right.high slot k has)))
        ∙ (copied_now.values slot k below (ap (value_register its) (sym zero_slot) ∙ comes)
        (λ i i_below there.
        its_right.parameters slot i k has (came_in (frame_at frames callee) i k (ap (value_register its) (let e : i ≡ 0 + i = omega arith in e) ∙ there)).0 (let takes = in_range.takes in omega (arith, takes, i_below)) wanted)
        ∙ sym (ap (copied c.active.slots arguments count choice.contents 0) zero_slot ∙ copied-inside c.active.slots choice.contents arguments count 0 slot below))

    -- After a call, each parameter that is passed in memory is in the callee's frame.
    entered_there : (slot : ℕ) → slot < (routine_at program callee).parameters → is_kept its slot ≡ true → w2.words (low + slot_offset its slot) ≡ copied c.active.slots arguments count choice.contents 0 slot
    entered_there slot below kept =
        let argument : slot < count = (let takes = in_range.takes in omega (arith, takes, below)) in
        let zero_slot : slot ≡ 0 + slot = omega arith in
        ap (λ (x : ℕ). w2.words (low + slot_offset its x)) zero_slot
        ∙ (copied_now.inside slot argument (ap (is_kept its) (sym zero_slot) ∙ kept)
        ∙ sym (ap (copied c.active.slots arguments count choice.contents 0) zero_slot ∙ copied-inside c.active.slots choice.contents arguments count 0 slot argument))

    -- The slots of the callee lie below the slots of the caller.
    new_below : IsBelow program callee (low + 4 * its.first_slot) c.active.base
    new_below =
        let fits = slots_fit (routine_at program callee) (frame_at frames callee) (fit.each callee in_range.function_in_range) in
        record {
          aligned = omega (arith, low_is, here_lies.2);
          low = omega (arith, low_is, here_lies.1, deeper);
          high = omega (arith, low_is, place_is, fits);
        }

    enters : (d : labelled.Configuration) → AtLine (function_line program frames callee) r3 w2 d → Reached program well frames fit code formed addresses pages calls few c (Running d)
    enters d later =
        reached program well frames fit code formed addresses pages calls few c choice (plain.Call callee arguments count result) (states.Running entered) (Running d)
        (called_at program c callee choice (ap callee_of at_i) (λ slot. later.w_words (low + slot_offset its slot)) new_below) at_i refl
        (within program well frames fit code formed addresses pages calls few entered s.laid.paged deeper)
        (inr (inr (inr (inl (record {
          run = d;
          r = r3;
          w = w2;
          base = low;
          is = refl;
          first = refl;
          now = later;
          standing = entered_stands;
          came = entered_caches;
          there = entered_there;
        })))))

    room_goes : (d : labelled.Configuration) → AtLine (here + 3) r w d → Goes 0 (suc here) (here + (5 + copies_count (frame_at frames c.active.function) (coming (frame_at frames callee)) arguments 0 count)) (Running d)
    room_goes d later =
        walk_few code formed addresses globals_length (words_per_call * calls) 0 (1 + (length passed + 1)) (suc here) (here + (5 + copies_count (frame_at frames c.active.function) (coming (frame_at frames callee)) arguments 0 count)) c.output _ (Running d) (omega arith)
        (walk_block code formed addresses globals_length (words_per_call * calls) entry (length passed + 1) (here + 3) (suc here) (here + (5 + copies_count (frame_at frames c.active.function) (coming (frame_at frames callee)) arguments 0 count)) c.output c.input _ r w d later
        (stands_front code (here + 3) (ordinary entry) (ordinary passed ++ call_line) at_entry)
        (refl, tt) (omega arith)
        (λ e after.
        walk_block code formed addresses globals_length (words_per_call * calls) passed 1 (here + 3 + 1) (here + 3 + 1) (here + (5 + copies_count (frame_at frames c.active.function) (coming (frame_at frames callee)) arguments 0 count)) c.output c.input _ r1 w e after
        (stands_front code (here + 3 + 1) (ordinary passed) call_line at_passed) copied_now.safe (omega arith)
        (λ f there.
        walk_call code formed addresses globals_length (words_per_call * calls) 0 (here + 3 + 1 + length passed) (here + 3 + 1 + length passed) (here + (5 + copies_count (frame_at frames c.active.function) (coming (frame_at frames callee)) arguments 0 count)) c.output c.input _ r2 w2 f (function_line program frames callee) there at_call (omega arith)
        (omega (arith, ap addresses line_is, lie.below (after_line program frames c.active.function c.active.next callee arguments count result) inside))
        (λ g called.
        walk_end code formed addresses globals_length (words_per_call * calls) (suc (here + 3 + 1 + length passed)) (here + (5 + copies_count (frame_at frames c.active.function) (coming (frame_at frames callee)) arguments 0 count)) c.output _ (Running g) (omega (arith, length_copies mine its arguments 0 count))
        (enters g called)))))

  pub calling_goes : Goes 1 here (here + (5 + copies_count (frame_at frames c.active.function) (coming (frame_at frames callee)) arguments 0 count)) (Running run)
  calling_goes = elim (cases_eq (r FRAME) (r LOWEST)) [
    | inl lowest ↦
        let stays : (if not (r FRAME == r LOWEST) then here + 3 else here + 1) ≡ here + 1 = ap (λ (b : Bool). if not b then here + 3 else here + 1) (eq-eqb (r FRAME) (r LOWEST) lowest) in
        walk_branch code formed addresses globals_length (words_per_call * calls) 0 here here (here + (5 + copies_count (frame_at frames c.active.function) (coming (frame_at frames callee)) arguments 0 count)) c.output c.input _ r w run (conditions.Registers branch.NotEqual (register_of FRAME) (register_of LOWEST)) (here + 3) (here + 1) now stands.0 (omega arith) stays
        (λ d later. full_goes d lowest later)
    | inr other ↦
        let leaps : (if not (r FRAME == r LOWEST) then here + 3 else here + 1) ≡ here + 3 = ap (λ (b : Bool). if not b then here + 3 else here + 1) (ne_eqb (r FRAME) (r LOWEST) other) in
        walk_branch code formed addresses globals_length (words_per_call * calls) 0 here here (here + (5 + copies_count (frame_at frames c.active.function) (coming (frame_at frames callee)) arguments 0 count)) c.output c.input _ r w run (conditions.Registers branch.NotEqual (register_of FRAME) (register_of LOWEST)) (here + 3) (here + 3) now stands.0 (omega arith) leaps
        (λ d later. room_goes other d later)
  ]
