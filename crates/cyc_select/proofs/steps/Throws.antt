-- The simulation of the instruction that throws: the exception reaches the newest handler, or ends the run.
use Rattle.std.proofs.Common.{◌≡◌, ◌≢◌, ℕ, suc, ◌+◌, ◌-◌, ◌*◌, ◌<◌, ◌≤◌, Bool, true, false, not, List, [], ◌∷◌, ◌++◌, length, Some, refl, sym, ap, subst, ◌∙◌, arith, inr, length-append, inl}
use Rattle.std.specs.Prelude.{◌==◌, ◌&&◌, nat_le, nat_lt, if◌then◌else◌}
use Rattle.std.proofs.lemmas.Bool.{eq-eqb, ne_eqb, or_left, or_right, and_from, le-leb, lt-ltb, cond-true}
use Rattle.cyc_words.specs.Ending.{Ending, Uncaught}
use Rattle.cyc_words.specs.Word.{signed, add_of, sign_extended}
use Rattle.cyc_plain.specs.inside.Uses.{is_slot}
use Rattle.cyc_plain.specs.declared.limits.TheConstants.{MOST_FRAME_WORDS}
use Rattle.cyc_isa.specs.Effect.{memory_address}
use Rattle.cyc_isa.specs.Decoding.{register_of}
use Rattle.cyc_isa.specs.declared.instr.Instr.{Instr}
use Rattle.cyc_isa.specs.declared.instr.BranchOp.TheVariants as branch
use Rattle.cyc_machine_model.specs.State.{globals_length, words_per_call}
use Rattle.cyc_machine_model.specs.declared.constants.TheConstants.{ARGUMENT, END_UNCAUGHT, RETURN_ADDRESS, SECOND_ARGUMENT, SERVICE}
use Rattle.cyc_plain.specs.declared.instruction.Instruction.{Instruction}
use Rattle.cyc_plain.specs.declared.instruction.Instruction.TheVariants as plain
use Rattle.cyc_plain.specs.declared.instruction.Operand.{Operand}
use Rattle.cyc_plain.specs.inside.Program.{Program, routine_at}
use Rattle.cyc_plain.specs.inside.State as states
use Rattle.cyc_plain.specs.inside.State.{Words, put, Handler, Open, Caught, Activation, Configuration}
use Rattle.cyc_plain.specs.inside.Step.{is_intact, lands, throws, instruction_at, operand_word, performed}
use Rattle.cyc_plain.specs.inside.WellFormed.{IsOperand, IsOfWord, IsTryInRange, IsWellFormed}
use Rattle.cyc_plain.proofs.SlotLaws.{put-other}
use Rattle.cyc_plain.proofs.RunLaws.{zeros, zeros_at, over_within}
use Rattle.cyc_frame.specs.inside.Layout.{AreFrames, slot_word, frame_at}
use Rattle.cyc_frame.specs.inside.Frame.{Frame}
use Rattle.cyc_select.specs.declared.constants.TheConstants.{FRAME, LOWEST, HANDLERS, REGIONS, ZERO, GLOBALS}
use Rattle.cyc_select.specs.declared.code.Condition.TheVariants as conditions
use Rattle.cyc_select.specs.declared.code.Line.{Line}
use Rattle.cyc_select.specs.declared.code.Line.TheVariants as lines
use Rattle.cyc_select.specs.inside.Labelled.{Labelled, IsFormed, IsReturnPoint, AreAddresses}
use Rattle.cyc_select.specs.inside.Machine as labelled
use Rattle.cyc_select.specs.inside.Machine.{State, Running, Ended}
use Rattle.cyc_select.specs.inside.Instructions.{small, syscall, slot_offset}
use Rattle.cyc_select.specs.inside.Slots.{is_kept}
use Rattle.cyc_select.specs.inside.Operands.{load_code, load_count}
use Rattle.cyc_select.specs.inside.Counts.{instruction_line}
use Rattle.cyc_select.specs.inside.Selection.{ordinary, load_record, unwound_code, body}
use Rattle.cyc_select.proofs.values.Blocks.{lasting, newest_lasts, count_lasts, middle_lasts, Puts}
use Rattle.cyc_select.proofs.steps.Calls.{length_ordinary}
use Rattle.cyc_select.proofs.relation.Cells.{IsCell}
use Rattle.cyc_select.proofs.values.Computing.{load_puts}
use Rattle.cyc_select.proofs.emission.Counts.{length_load}
use Rattle.cyc_select.proofs.relation.Held.{operand_held}
use Rattle.cyc_select.proofs.relation.Matches.{After, At, Landed, Reached, reached, within}
use Rattle.cyc_select.proofs.values.Operations.{add_small, address_at}
use Rattle.cyc_select.proofs.relation.Waiting.{opens_at, left_past, left_same, LeftBy, preserved_of, frame_size, Chain, Lies, IsRecord, IsNewest, IsBack, saves_at}
use Rattle.cyc_select.proofs.relation.Standing.{under_way, stage_of, Standing, lies, slot_inside, word_cell}
use Rattle.cyc_select.proofs.relation.Values.{Caches, barred_kept, among}
use Rattle.cyc_select.proofs.effects.Views.{Contents}
use Rattle.cyc_select.proofs.effects.Sequences.{Stands, stands_front, stands_back, stands_first, stands_after, after_r, after_w}
use Rattle.cyc_select.proofs.effects.Walks.{Walk, now_is, walk_end, walk_few, walk_block, walk_branch, walk_return, walk_uncaught}
use Rattle.cyc_select.proofs.steps.Records.{Holds4, holds_four}

module _ (program : Program) (well : IsWellFormed program) (frames : List Frame) (fit : AreFrames program frames) (code : Labelled) (formed : IsFormed code) (addresses : ℕ → ℕ) (pages calls : ℕ) (few : calls ≤ 4096)
    (lie : AreAddresses code addresses) (c : Configuration)
    (range_of : (function index first handler : ℕ) → instruction_at program (record { function = function; index = index }) ≡ Some (plain.Try first handler) → IsTryInRange (routine_at program function) first handler)
    (lands_at : (function index first handler : ℕ) → instruction_at program (record { function = function; index = index }) ≡ Some (plain.Try first handler) → IsReturnPoint code (instruction_line program frames function index + 3)) where
  abbrev frame : Frame
  frame = frame_at frames c.active.function

  abbrev slots : ℕ
  slots = (routine_at program c.active.function).slots

  abbrev here : ℕ
  here = instruction_line program frames c.active.function c.active.next

  abbrev Goes : (least lo hi : ℕ) → State → Type 0
  Goes least lo hi t = Walk code formed addresses globals_length (words_per_call * calls) least lo hi c.output (After program pages calls c) (Reached program well frames fit code formed addresses pages calls few c) t

  abbrev IsAt : Instruction → Type 0
  IsAt i = instruction_at program (states.place_of (states.Running c)) ≡ Some i

  module _ (run : labelled.Configuration) (r : Words) (w : Contents) (base back : ℕ)
      (now : At program well frames fit code formed addresses pages calls few here c.output c.input r w run)
      (s : Standing program frames addresses pages calls c r w base back (stage_of frames c) c.active.slots)
      (caches : Caches program frames c.active.function c.active.next r c.active.slots) where
    abbrev IsThere : Operand → Type 0
    IsThere o = IsOperand (routine_at program c.active.function) o × IsOfWord o

    abbrev word_in : Operand → ℕ
    word_in o = operand_word c.active.slots o

    -- The slots of a handler's record have their home in memory.
    record_kept : (function : ℕ) → function < length program.functions → (index first handler : ℕ) → instruction_at program (record { function = function; index = index }) ≡ Some (plain.Try first handler)
        → (k : ℕ) → k < 4 → is_kept (frame_at frames function) (first + k) ≡ true
    record_kept function known index first handler at k below =
        barred_kept program frames function (fit.homes function known) index (first + k) (plain.Try first handler) at (among first 4 (first + k) (omega arith) (omega (arith, below)))

    -- ---- an exception is thrown

    -- `IsUnsaved` says that no function of the program saves the `j`-th callee-saved register, so its word is equal in all calls.
    abbrev IsUnsaved : (j : ℕ) → Type 0
    IsUnsaved j = (g : ℕ) → g < length program.functions → (frame_at frames g).saved ≤ j

    -- Returns the registers as if a call had returned: the callee-saved registers are restored, and the caller's frame is the current one.
    abbrev as_returned : (left q : Words) (base : ℕ) → Words
    as_returned left q base = put (λ (n : ℕ). if nat_le 17 n && nat_lt n 24 then left (n - 17) else q n) FRAME base

    returned_preserved : (left q : Words) (base j : ℕ) → j < 7 → as_returned left q base (17 + j) ≡ left j
    returned_preserved left q base j high =
        put-other (λ (n : ℕ). if nat_le 17 n && nat_lt n 24 then left (n - 17) else q n) FRAME (17 + j) base (λ e. absurd (omega (arith, e, high)))
        ∙ (cond-true (nat_le 17 (17 + j) && nat_lt (17 + j) 24) (left (17 + j - 17)) (q (17 + j)) (and_from _ _ (le-leb 17 (17 + j) (omega arith)) (lt-ltb (17 + j) 24 (omega (arith, high))))
        ∙ ap left (let e : 17 + j - 17 ≡ j = omega arith in e))

    -- `IsFound` describes the call whose handler catches the thrown exception, as if this call were the active one.
    record IsFound (tag value : ℕ) (t : states.State) : Type 0 where
      pub call : Activation
      pub waiting : List states.Frame
      pub q : Words
      pub low : ℕ
      pub way_back : ℕ
      pub index : ℕ
      pub first : ℕ
      pub contents : Words
      pub rest : List Handler
      pub stands : Standing program frames addresses pages calls (record c { active = call; frames = waiting }) q w low way_back (under_way (frame_at frames call.function).saves) call.slots
      pub one : IsRecord program frames addresses (q HANDLERS) low call.function index first contents
      pub others : IsNewest program frames addresses (contents 0) low call.function rest waiting
      pub kept : w.words (low + 4 * (frame_at frames call.function).return_address) ≡ way_back
      pub same : lasting q ≡ lasting r
      pub unsaved : (j : ℕ) → j < 7 → IsUnsaved j → preserved_of q j ≡ preserved_of r j
      pub intact : is_intact call.slots first contents ≡ true
      pub does : t ≡ states.Running (record c { active = record call { next = index; slots = put (put call.slots first tag) (suc first) value; handlers = Caught ∷ rest }; frames = waiting })

    data Search (tag value : ℕ) (t : states.State) : Type 0 where
      nobody : r HANDLERS ≡ 0 → t ≡ states.Ended (Uncaught tag (signed value)) c.output c.input → Search tag value t
      lost : t ≡ states.Stuck c.output c.input → Search tag value t
      found : IsFound tag value t → Search tag value t

    module _ (tag value : ℕ) where
      abbrev come : Activation → List states.Frame → (index first : ℕ) → List Handler → states.State
      come call waiting index first rest =
          states.Running (record c { active = record call { next = index; slots = put (put call.slots first tag) (suc first) value; handlers = Caught ∷ rest }; frames = waiting })

      -- The exception is caught by a handler of this call or of an outer one, or ends the run.
      in_call : (call : Activation) (waiting : List states.Frame) (q : Words) (low back : ℕ) (beyond : states.State)
          → Standing program frames addresses pages calls (record c { active = call; frames = waiting }) q w low back (under_way (frame_at frames call.function).saves) call.slots → lasting q ≡ lasting r → ((j : ℕ) → j < 7 → IsUnsaved j → preserved_of q j ≡ preserved_of r j)
          → (call.handlers ≡ [] → Search tag value beyond) → (handlers : List Handler) → call.handlers ≡ handlers
          → IsNewest program frames addresses (q HANDLERS) low call.function handlers waiting
          → Search tag value (lands c tag value call waiting beyond handlers)
      in_call call waiting q low back beyond stands same unsaved further [] is records = further is
      in_call call waiting q low back beyond stands same unsaved further (Caught ∷ rest) is records = absurd records
      in_call call waiting q low back beyond stands same unsaved further (Open index first contents ∷ rest) is (one, others) = go (is_intact call.slots first contents) refl
        where
          go : (whole : Bool) → is_intact call.slots first contents ≡ whole → Search tag value (if is_intact call.slots first contents then come call waiting index first rest else states.Stuck c.output c.input)
          go false broken = lost (ap (λ (b : Bool). if b then come call waiting index first rest else states.Stuck c.output c.input) broken)
          go true intact = found (record {
            call = call;
            waiting = waiting;
            q = q;
            low = low;
            way_back = back;
            index = index;
            first = first;
            contents = contents;
            rest = rest;
            stands = stands;
            one = one;
            others = others;
            kept = subst (λ (b : Bool). IsBack b (frame_at frames call.function) q w low back) (saves_at program frames fit call.function index (plain.Try first one.handler) stands.known one.opened refl) stands.way;
            same = same;
            unsaved = unsaved;
            intact = intact;
            does = ap (λ (b : Bool). if b then come call waiting index first rest else states.Stuck c.output c.input) intact;
          })

      -- When an exception leaves a call, the caller's frame is in memory as if the call had returned.
      popped : (call : Activation) (f : states.Frame) (waiting : List states.Frame) (q : Words) (low back : ℕ) → call.handlers ≡ []
          → (stands : Standing program frames addresses pages calls (record c { active = call; frames = f ∷ waiting }) q w low back (under_way (frame_at frames call.function).saves) call.slots)
          → Standing program frames addresses pages calls (record c { active = f.caller; frames = waiting })
          (as_returned stands.left q (low + frame_size)) w (low + frame_size)
          (w.words (low + frame_size + 4 * (frame_at frames f.caller.function).return_address)) (under_way (frame_at frames f.caller.function).saves) f.caller.slots
      popped call f waiting q low back none stands =
          let (arguments, count, index, known, at, next, is_back, holds, finds, chain) = stands.chain in
          let its : Frame = frame_at frames f.caller.function in
          let above : ℕ = low + frame_size in
          let back_there : ℕ = w.words (above + 4 * (frame_at frames f.caller.function).return_address) in
          let saved = saves_at program frames fit f.caller.function index (plain.Call call.function arguments count f.result) known at refl in
          subst (λ (b : Bool). Standing program frames addresses pages calls (record c { active = f.caller; frames = waiting }) (as_returned stands.left q (low + frame_size)) w (low + frame_size) back_there (under_way b) f.caller.slots) (sym saved)
          (record {
            known = known;
            base_is = refl;
            zero_is = stands.zero_is;
            lowest = stands.lowest;
            deep = omega (arith, stands.deep);
            holds = holds;
            left = LeftBy its above stands.left w;
            chain = chain;
            leaves = λ j high.
                left_same its.first_saved its.saved above stands.left (preserved_of (as_returned stands.left q above)) w w (λ i past small. returned_preserved stands.left q above i small) (λ i below small. refl) j high;
            globals = stands.globals;
            input = stands.input;
            newest = subst (λ (hs : List Handler). IsNewest program frames addresses (q HANDLERS) low call.function hs (f ∷ waiting)) none stands.newest;
            way = refl;
            based = stands.based.1;
            store = stands.store;
            laid = stands.laid;
            counted = stands.counted;
            middle = stands.middle;
          })

      unsaved_popped : (call : Activation) (f : states.Frame) (waiting : List states.Frame) (q : Words) (low back : ℕ) → ((j : ℕ) → j < 7 → IsUnsaved j → preserved_of q j ≡ preserved_of r j)
          → (stands : Standing program frames addresses pages calls (record c { active = call; frames = f ∷ waiting }) q w low back (under_way (frame_at frames call.function).saves) call.slots)
          → (j : ℕ) → j < 7 → IsUnsaved j → preserved_of (as_returned stands.left q (low + frame_size)) j ≡ preserved_of r j
      unsaved_popped call f waiting q low back unsaved stands j high none =
          let its : Frame = frame_at frames call.function in
          returned_preserved stands.left q (low + frame_size) j high
          ∙ (sym (stands.leaves j high) ∙ (left_past its.first_saved its.saved low (preserved_of q) w j (none call.function stands.known) ∙ unsaved j high none))

      search : (waiting : List states.Frame) (call : Activation) (q : Words) (low back : ℕ) → lasting q ≡ lasting r → ((j : ℕ) → j < 7 → IsUnsaved j → preserved_of q j ≡ preserved_of r j)
          → Standing program frames addresses pages calls (record c { active = call; frames = waiting }) q w low back (under_way (frame_at frames call.function).saves) call.slots → Search tag value (throws c tag value call waiting)
      search [] call q low back same unsaved stands =
          in_call call [] q low back (states.Ended (Uncaught tag (signed value)) c.output c.input) stands same unsaved
          (λ none. nobody (sym (newest_lasts q r same) ∙ subst (λ (hs : List Handler). IsNewest program frames addresses (q HANDLERS) low call.function hs []) none stands.newest) refl)
          call.handlers refl stands.newest
      search (f ∷ waiting) call q low back same unsaved stands =
          in_call call (f ∷ waiting) q low back (throws c tag value f.caller waiting) stands same unsaved
          (λ none. search waiting f.caller _ _ _ same (unsaved_popped call f waiting q low back unsaved stands) (popped call f waiting q low back none stands))
          call.handlers refl stands.newest

      -- The module concerns the words of the record, in memory, of the handler that catches the exception.
      module _ (t : states.State) (it : IsFound tag value t) where
        abbrev its : Frame
        its = frame_at frames it.call.function

        abbrev there : Configuration
        there = record c { active = it.call; frames = it.waiting }

        its_range : IsTryInRange (routine_at program it.call.function) it.first it.one.handler
        its_range = range_of it.call.function it.index it.first it.one.handler it.one.opened

        its_lies : Lies program frames fit addresses it.low (suc (length it.waiting))
        its_lies = lies program well frames fit addresses pages calls few there it.q w it.low it.way_back (under_way its.saves) it.call.slots it.stands

        record_at : r HANDLERS ≡ it.low + slot_offset its it.first
        record_at = sym (newest_lasts it.q r it.same) ∙ it.one.at

        -- Each word of the handler's record lies within its function's frame.
        word_inside : (k : ℕ) → k < 4 → slot_word its (it.first + k) < MOST_FRAME_WORDS
        word_inside k below =
            slot_inside program well frames fit addresses pages calls few there it.q w it.low it.way_back (under_way its.saves) it.call.slots it.stands (it.first + k) (omega (arith, its_range.record_in_range, below))

        address_is : (k : ℕ) → k < 4 → memory_address (r HANDLERS) (4 * k) ≡ it.low + slot_offset its (it.first + k)
        address_is k below =
            let word = word_inside k below in
            ap (λ (n : ℕ). memory_address n (4 * k)) record_at
            ∙ (address_at (it.low + slot_offset its it.first) (4 * k) (omega (arith, below)) (omega (arith, word, its_lies.below_end))
            ∙ (let e : it.low + slot_offset its it.first + 4 * k ≡ it.low + slot_offset its (it.first + k) = omega arith in e))

        record_cell : (k : ℕ) → k < 4 → IsCell globals_length (words_per_call * calls) (memory_address (r HANDLERS) (4 * k))
        record_cell k below =
            subst (IsCell globals_length (words_per_call * calls)) (sym (address_is k below))
            (word_cell program well frames fit addresses pages calls few there it.q w it.low it.way_back (under_way its.saves) it.call.slots it.stands (slot_word its (it.first + k)) (word_inside k below))

        record_word : (k : ℕ) → k < 4 → w.words (memory_address (r HANDLERS) (4 * k)) ≡ it.call.slots (it.first + k)
        record_word k below =
            ap w.words (address_is k below)
            ∙ it.stands.holds (it.first + k) (omega (arith, its_range.record_in_range, below)) (record_kept it.call.function it.stands.known it.index it.first it.one.handler it.one.opened k below)

        whole : Holds4 it.call.slots it.first it.contents
        whole = holds_four it.call.slots it.first it.contents it.intact

        some : r HANDLERS ≢ 0
        some none = absurd (omega (arith, none, record_at, its_lies.above_low, it.stands.deep))

        -- The module assumes that the run continues at the exception handler, with registers loaded from the handler's record.
        module _ (final : Words) (zero_is : final 0 ≡ 0) (previous_is : final HANDLERS ≡ it.contents 0) (base_is : final FRAME ≡ it.contents 1) (lowest_is : final LOWEST ≡ r LOWEST) (count_is : final REGIONS ≡ r REGIONS) (middle_is : final GLOBALS ≡ r GLOBALS)
            (preserved_is : (j : ℕ) → j < 7 → preserved_of final j ≡ preserved_of r j) (tag_is : final 4 ≡ tag) (value_is : final 5 ≡ value) (g : labelled.Configuration)
            (at_line : At program well frames fit code formed addresses pages calls few (instruction_line program frames it.call.function it.index + 3) c.output c.input final w g) where
          abbrev next : Configuration
          next = record c {
            active = record it.call { next = it.index; slots = put (put it.call.slots it.first tag) (suc it.first) value; handlers = Caught ∷ it.rest };
            frames = it.waiting;
          }

          -- The function of the handler saves every callee-saved register that any function of the program may change.
          saves_all : (j : ℕ) → its.saved ≤ j → IsUnsaved j
          saves_all j past g known =
              let most = fit.opening it.call.function g it.stands.known known (opens_at (routine_at program it.call.function).code it.index it.first it.one.handler it.one.opened) in
              omega (arith, most, past)

          landed : Landed program well frames fit code formed addresses pages calls few next (Running g)
          landed = record {
            run = g;
            r = final;
            w = w;
            base = it.low;
            first = it.first;
            handler = it.one.handler;
            handlers = it.rest;
            waiting = it.call.slots;
            is = refl;
            opened = it.one.opened;
            caught = refl;
            now = at_line;
            standing = record {
              known = it.stands.known;
              base_is = base_is ∙ it.one.frame;
              zero_is = zero_is;
              lowest = ap (λ (n : ℕ). n + frame_size * calls) lowest_is ∙ s.lowest;
              deep = it.stands.deep;
              holds = it.stands.holds;
              left = it.stands.left;
              chain = subst (λ (b : ℕ). Chain program frames addresses w it.low b it.stands.left it.call.function it.waiting) (sym it.kept) it.stands.chain;
              leaves = λ j high.
                  left_same its.first_saved its.saved it.low (preserved_of it.q) (preserved_of final) w w (λ i past small. preserved_is i small ∙ sym (it.unsaved i small (saves_all i past))) (λ i below small. refl) j high
                  ∙ it.stands.leaves j high;
              globals = it.stands.globals;
              input = it.stands.input;
              newest = subst (λ (n : ℕ). IsNewest program frames addresses n it.low it.call.function it.rest it.waiting) (sym previous_is) it.others;
              way = refl;
              based = it.stands.based;
              store = it.stands.store;
              laid = it.stands.laid;
              counted = count_is ∙ (sym (count_lasts it.q r it.same) ∙ it.stands.counted);
              middle = middle_is ∙ (sym (middle_lasts it.q r it.same) ∙ it.stands.middle);
            };
            slots =
                ap (λ (x : ℕ). put (put it.call.slots it.first x) (suc it.first) value) (sym tag_is)
                ∙ ap (λ (x : ℕ). put (put it.call.slots it.first (final 4)) (suc it.first) x) (sym value_is);
          }

    module _ (tag value : Operand) (at_i : IsAt (plain.Throw tag value)) (tag_there : IsThere tag) (value_there : IsThere value)
        (never : performed program zeros c (plain.Throw tag value) ≡ states.Stuck c.output c.input → ⊥)
        (stands : Stands code here (body program frames c.active.function here (plain.Throw tag value))) where
      abbrev is : List Instr
      is = load_code frame ARGUMENT tag

      abbrev js : List Instr
      js = load_code frame SECOND_ARGUMENT value

      abbrev hi : ℕ
      hi = here + (load_count tag + load_count value + 7)

      abbrev label : ℕ
      label = here + (load_count tag + load_count value) + 3

      abbrev ends : List Instr
      ends = small SERVICE END_UNCAUGHT ∷ []

      abbrev rest : List Line
      rest = lines.Branch (conditions.Registers branch.NotEqual (register_of HANDLERS) (register_of ZERO)) label ∷ ordinary (small SERVICE END_UNCAUGHT ∷ syscall ∷ []) ++ (ordinary unwound_code ++ lines.Return ∷ [])

      long : length is ≡ load_count tag
      long = length_load frame ARGUMENT tag

      more : length js ≡ load_count value
      more = length_load frame SECOND_ARGUMENT value

      abbrev k : ℕ
      k = here + length is + length js

      loads_stand : Stands code here (ordinary (is ++ js))
      loads_stand = stands_front code here (ordinary (is ++ js)) rest stands

      rest_stands : Stands code k rest
      rest_stands =
          subst (λ (n : ℕ). Stands code n rest) (let e : here + length (ordinary (is ++ js)) ≡ here + length is + length js = omega (arith, length_ordinary (is ++ js), length-append is js) in e)
          (stands_back code here (ordinary (is ++ js)) rest stands)

      unwound_stands : Stands code label (ordinary unwound_code ++ lines.Return ∷ [])
      unwound_stands =
          subst (λ (n : ℕ). Stands code n (ordinary unwound_code ++ lines.Return ∷ [])) (let e : k + 1 + 2 ≡ label = omega (arith, long, more) in e)
          (stands_back code (k + 1) (ordinary (small SERVICE END_UNCAUGHT ∷ syscall ∷ [])) (ordinary unwound_code ++ lines.Return ∷ []) rest_stands.1)

      abbrev q : Words
      q = after_r is r w

      abbrev v : Contents
      v = after_w is r w

      first : Puts globals_length (words_per_call * calls) is r w ARGUMENT ARGUMENT (word_in tag)
      first =
          load_puts globals_length (words_per_call * calls) frame (r FRAME) w r c.active.slots r w s.zero_is refl refl (λ n low high. refl) ARGUMENT refl tag
          (operand_held program well frames fit code formed addresses pages calls few c run r w base back now s caches (plain.Throw tag value) at_i tag (λ slot is_it. or_left (is_slot tag slot) (is_slot value slot) is_it) tag_there)

      second : Puts globals_length (words_per_call * calls) js q v SECOND_ARGUMENT SECOND_ARGUMENT (word_in value)
      second =
          load_puts globals_length (words_per_call * calls) frame (r FRAME) w r c.active.slots q v
          (first.others 0 (omega arith) (λ e. absurd (omega (arith, e))) ∙ s.zero_is) (first.others FRAME (omega arith) (λ e. absurd (omega (arith, e)))) first.memory
          (λ n low high. first.others n (omega (arith, high)) (λ e. absurd (omega (arith, e, low)))) SECOND_ARGUMENT refl value
          (operand_held program well frames fit code formed addresses pages calls few c run r w base back now s caches (plain.Throw tag value) at_i value (λ slot is_it. or_right (is_slot tag slot) (is_slot value slot) is_it) value_there)

      abbrev p : Words
      p = after_r js q v

      unchanged : after_w js q v ≡ w
      unchanged = second.memory ∙ first.memory

      kept : (n : ℕ) → n < 32 → n ≢ ARGUMENT → n ≢ SECOND_ARGUMENT → p n ≡ r n
      kept n below other also = second.others n below also ∙ first.others n below other

      p_zero : p 0 ≡ 0
      p_zero = kept 0 (omega arith) (λ e. absurd (omega (arith, e))) (λ e. absurd (omega (arith, e))) ∙ s.zero_is

      p_lowest : p LOWEST ≡ r LOWEST
      p_lowest = kept LOWEST (omega arith) (λ e. absurd (omega (arith, e))) (λ e. absurd (omega (arith, e)))

      p_newest : p HANDLERS ≡ r HANDLERS
      p_newest = kept HANDLERS (omega arith) (λ e. absurd (omega (arith, e))) (λ e. absurd (omega (arith, e)))

      p_count : p REGIONS ≡ r REGIONS
      p_count = kept REGIONS (omega arith) (λ e. absurd (omega (arith, e))) (λ e. absurd (omega (arith, e)))

      p_middle : p GLOBALS ≡ r GLOBALS
      p_middle = kept GLOBALS (omega arith) (λ e. absurd (omega (arith, e))) (λ e. absurd (omega (arith, e)))

      p_preserved : (j : ℕ) → j < 7 → preserved_of p j ≡ preserved_of r j
      p_preserved j high = kept (17 + j) (omega (arith, high)) (λ e. absurd (omega (arith, e))) (λ e. absurd (omega (arith, e)))

      p_tag : p 4 ≡ word_in tag
      p_tag = second.others ARGUMENT (omega arith) (λ e. absurd (omega (arith, e))) ∙ first.result

      p_value : p 5 ≡ word_in value
      p_value = second.result

      loads_go : (n : ℕ) → ((d : labelled.Configuration) → At program well frames fit code formed addresses pages calls few k c.output c.input p w d → Goes (suc n) k hi (Running d)) → Goes 1 here hi (Running run)
      loads_go n further =
          walk_few code formed addresses globals_length (words_per_call * calls) 1 (length is + (length js + suc n)) here hi c.output _ (Running run) (omega arith)
          (walk_block code formed addresses globals_length (words_per_call * calls) is (length js + suc n) here here hi c.output c.input _ r w run now (stands_first code here is js loads_stand) first.safe (omega arith)
          (λ d before.
          walk_block code formed addresses globals_length (words_per_call * calls) js (suc n) (here + length is) (here + length is) hi c.output c.input _ q v d before (stands_after code here is js loads_stand) second.safe (omega arith)
          (λ e later.
          further e (now_is code formed addresses globals_length (words_per_call * calls) k c.output c.input p (after_w js q v) p w e refl unchanged later))))

      -- If no handler catches the exception, the labelled machine (MIPS lines) simulates the end of the run.
      ends_goes : r HANDLERS ≡ 0 → performed program zeros c (plain.Throw tag value) ≡ states.Ended (Uncaught (word_in tag) (signed (word_in value))) c.output c.input → Goes 1 here hi (Running run)
      ends_goes none does =
          let stays : (if not (p HANDLERS == p ZERO) then label else k + 1) ≡ k + 1 = ap (λ (b : Bool). if not b then label else k + 1) (eq-eqb (p HANDLERS) (p 0) (p_newest ∙ (none ∙ sym p_zero))) in
          let ending_is : Uncaught (p 4) (signed (p 5)) ≡ Uncaught (word_in tag) (signed (word_in value)) =
          ap (λ (x : ℕ). Uncaught x (signed (p 5))) p_tag ∙ ap (λ (x : ℕ). Uncaught (word_in tag) (signed x)) p_value in
          loads_go 0
          (λ d later.
          walk_branch code formed addresses globals_length (words_per_call * calls) 0 k k hi c.output c.input _ p w d (conditions.Registers branch.NotEqual (register_of HANDLERS) (register_of ZERO)) label (k + 1) later rest_stands.0 (omega arith) stays
          (λ e after.
          walk_few code formed addresses globals_length (words_per_call * calls) 0 (1 + 1) (suc k) hi c.output _ (Running e) (omega arith)
          (walk_block code formed addresses globals_length (words_per_call * calls) ends 1 (k + 1) (suc k) hi c.output c.input _ p w e after (rest_stands.1.0, tt) (refl, tt) (omega arith)
          (λ f prepared.
          walk_uncaught code formed addresses globals_length (words_per_call * calls) (k + 1 + 1) (k + 1 + 1) hi c.output c.input _ (put p 2 (add_of (p 0) (sign_extended 4))) w f prepared rest_stands.1.1.0 (omega arith) (omega (arith, long, more))
          (ap (λ (x : ℕ). add_of x (sign_extended 4)) p_zero ∙ add_small 0 4 (omega arith) (omega arith))
          (reached program well frames fit code formed addresses pages calls few c zeros (plain.Throw tag value) (states.Ended (Uncaught (word_in tag) (signed (word_in value))) c.output c.input) _ (zeros_at program c (plain.Throw tag value) at_i refl) at_i does
          (over_within pages calls (Uncaught (word_in tag) (signed (word_in value))) c.output c.input)
          (ap (λ (x : Ending). Ended x c.output c.input) ending_is))))))

      -- The module concerns a thrown exception that reaches a handler.
      module _ (it : IsFound (word_in tag) (word_in value) (performed program zeros c (plain.Throw tag value))) where
        abbrev final : Words
        final = after_r unwound_code p w

        cell_of : (j : ℕ) → j < 4 → IsCell globals_length (words_per_call * calls) (memory_address (p HANDLERS) (4 * j))
        cell_of j below =
            subst (λ (n : ℕ). IsCell globals_length (words_per_call * calls) (memory_address n (4 * j))) (sym p_newest)
            (record_cell (word_in tag) (word_in value) (performed program zeros c (plain.Throw tag value)) it j below)

        word_of : (j : ℕ) → j < 4 → w.words (memory_address (p HANDLERS) (4 * j)) ≡ it.call.slots (it.first + j)
        word_of j below =
            ap (λ (n : ℕ). w.words (memory_address n (4 * j))) p_newest
            ∙ record_word (word_in tag) (word_in value) (performed program zeros c (plain.Throw tag value)) it j below

        holds_it : Holds4 it.call.slots it.first it.contents
        holds_it = whole (word_in tag) (word_in value) (performed program zeros c (plain.Throw tag value)) it

        back_word : final RETURN_ADDRESS ≡ it.contents 2
        back_word = word_of 2 (omega arith) ∙ holds_it.two

        base_word : final FRAME ≡ it.contents 1
        base_word = word_of 1 (omega arith) ∙ holds_it.one

        previous_word : final HANDLERS ≡ it.contents 0
        previous_word = word_of 0 (omega arith) ∙ (ap it.call.slots (let e : it.first + 0 ≡ it.first = omega arith in e) ∙ holds_it.zeroth)

        final_preserved : (j : ℕ) → j < 7 → preserved_of final j ≡ preserved_of r j
        final_preserved j high =
            let third : final (17 + j) ≡ after_r (load_record RETURN_ADDRESS 8 ∷ load_record FRAME 4 ∷ []) p w (17 + j) =
            put-other (after_r (load_record RETURN_ADDRESS 8 ∷ load_record FRAME 4 ∷ []) p w) HANDLERS (17 + j) _ (λ e. absurd (omega (arith, e, high))) in
            let second_same : after_r (load_record RETURN_ADDRESS 8 ∷ load_record FRAME 4 ∷ []) p w (17 + j) ≡ after_r (load_record RETURN_ADDRESS 8 ∷ []) p w (17 + j) =
            put-other (after_r (load_record RETURN_ADDRESS 8 ∷ []) p w) FRAME (17 + j) _ (λ e. absurd (omega (arith, e, high))) in
            let first_same : after_r (load_record RETURN_ADDRESS 8 ∷ []) p w (17 + j) ≡ p (17 + j) = put-other p RETURN_ADDRESS (17 + j) _ (λ e. absurd (omega (arith, e, high))) in
            third ∙ (second_same ∙ (first_same ∙ p_preserved j high))

        found_goes : Goes 1 here hi (Running run)
        found_goes =
            let other : p HANDLERS ≢ p 0 = λ e. some (word_in tag) (word_in value) (performed program zeros c (plain.Throw tag value)) it (sym p_newest ∙ (e ∙ p_zero)) in
            let leaps : (if not (p HANDLERS == p ZERO) then label else k + 1) ≡ label = ap (λ (b : Bool). if not b then label else k + 1) (ne_eqb (p HANDLERS) (p 0) other) in
            let line : ℕ = instruction_line program frames it.call.function it.index + 3 in
            loads_go 0
            (λ d later.
            walk_branch code formed addresses globals_length (words_per_call * calls) 0 k k hi c.output c.input _ p w d (conditions.Registers branch.NotEqual (register_of HANDLERS) (register_of ZERO)) label label later rest_stands.0 (omega arith) leaps
            (λ e after.
            walk_few code formed addresses globals_length (words_per_call * calls) 0 (3 + 1) (suc k) hi c.output _ (Running e) (omega arith)
            (walk_block code formed addresses globals_length (words_per_call * calls) unwound_code 1 label (suc k) hi c.output c.input _ p w e after
            (stands_front code label (ordinary unwound_code) (lines.Return ∷ []) unwound_stands)
            ((refl, cell_of 2 (omega arith)), ((refl, cell_of 1 (omega arith)), ((refl, cell_of 0 (omega arith)), tt))) (omega (arith, long, more))
            (λ f unwound.
            walk_return code formed addresses globals_length (words_per_call * calls) 0 (label + 3) (label + 3) hi c.output c.input _ final w f (instruction_line program frames it.call.function it.index + 3) lie unwound
            (stands_back code label (ordinary unwound_code) (lines.Return ∷ []) unwound_stands).0 (omega arith)
            (lands_at it.call.function it.index it.first it.one.handler it.one.opened) (back_word ∙ it.one.line)
            (λ g thrown.
            walk_end code formed addresses globals_length (words_per_call * calls) (suc (label + 3)) hi c.output _ (Running g) (omega arith)
            (reached program well frames fit code formed addresses pages calls few c zeros (plain.Throw tag value)
            (states.Running (record c { active = record it.call { next = it.index; slots = put (put it.call.slots it.first (word_in tag)) (suc it.first) (word_in value); handlers = Caught ∷ it.rest }; frames = it.waiting }))
            (Running g) (zeros_at program c (plain.Throw tag value) at_i refl) at_i it.does
            (within program well frames fit code formed addresses pages calls few (record c { active = record it.call { next = it.index; slots = put (put it.call.slots it.first (word_in tag)) (suc it.first) (word_in value); handlers = Caught ∷ it.rest }; frames = it.waiting }) s.laid.paged it.stands.deep)
            (inr (inr (inl (landed (word_in tag) (word_in value) (performed program zeros c (plain.Throw tag value)) it final p_zero previous_word base_word p_lowest p_count p_middle final_preserved p_tag p_value g thrown))))))))))

      pub throw_goes : Goes 1 here hi (Running run)
      throw_goes = by (search (word_in tag) (word_in value) c.frames c.active r base back refl (λ j high unsaved. refl) s)
        where
          by : Search (word_in tag) (word_in value) (performed program zeros c (plain.Throw tag value)) → Goes 1 here hi (Running run)
          by (nobody none does) = ends_goes none does
          by (lost stuck) = absurd (never stuck)
          by (found it) = found_goes it
