-- The simulation relation between states of the labelled machine (MIPS code with line numbers) and
-- of the plain machine (three-address code).
use Rattle.std.proofs.Common.{◌≡◌, ◌≢◌, ℕ, suc, ◌+◌, ◌-◌, ◌*◌, ◌<◌, ◌≤◌, Bool, true, false, List, [], ◌∷◌, length, Option, Some, refl, sym, ap, subst, ◌∙◌, arith, inl}
use Rattle.std.specs.Prelude.{◌⊎◌, ◌==◌, slice_index, if◌then◌else◌}
use Rattle.std.specs.List.{AllByRecursion}
use Rattle.std.proofs.lemmas.Bool.{and_from, le-leb}
use Rattle.cyc_plain.specs.inside.Uses.{writes, leads}
use Rattle.cyc_select.specs.declared.constants.TheConstants.{LOWEST, FRAME}
use Rattle.cyc_machine_model.specs.declared.constants.TheConstants.{RETURN_ADDRESS}
use Rattle.cyc_words.specs.Word.{IsWord}
use Rattle.cyc_words.specs.Simulation as simulation
use Rattle.cyc_isa.specs.Effect.{memory_address}
use Rattle.cyc_machine_model.specs.State.{globals_length, words_per_call}
use Rattle.cyc_store.specs.State.{demand}
use Rattle.cyc_plain.specs.declared.instruction.Instruction.{Instruction}
use Rattle.cyc_plain.specs.declared.instruction.Instruction.TheVariants as plain
use Rattle.cyc_plain.specs.inside.Program.{Program, routine_at}
use Rattle.cyc_plain.specs.inside.State as states
use Rattle.cyc_plain.specs.inside.State.{Words, put, copied, Configuration}
use Rattle.cyc_plain.specs.inside.Step.{Choice, IsAllowed, instruction_at, performed, executed, gives, step, is_within, limit_of, limit_at, limited, Step}
use Rattle.cyc_plain.specs.inside.WellFormed.{IsWellFormed}
use Rattle.cyc_plain.proofs.RunLaws.{limited-within, limit_free, zeros, calls_nothing, zeros_at}
use Rattle.cyc_registers.specs.inside.Liveness.{IsLiveAt}
use Rattle.cyc_frame.specs.inside.Layout.{AreFrames, frame_at}
use Rattle.cyc_frame.specs.inside.Frame.{Frame}
use Rattle.cyc_select.specs.inside.Labelled.{Labelled, IsFormed}
use Rattle.cyc_select.specs.inside.Machine as labelled
use Rattle.cyc_select.specs.inside.Machine.{State, Running, Ended}
use Rattle.cyc_select.specs.inside.Plans.{test_of}
use Rattle.cyc_select.specs.inside.Instructions.{slot_offset}
use Rattle.cyc_select.specs.inside.Slots.{coming, value_register, is_kept}
use Rattle.cyc_select.specs.inside.Operands.{test_count}
use Rattle.cyc_select.specs.inside.Hoisting.{is_idle}
use Rattle.cyc_select.specs.inside.Counts.{function_line, instruction_line, count_of}
use Rattle.cyc_select.proofs.values.Blocks.{ValuesSame, lasting}
use Rattle.cyc_select.proofs.layout.Lines.{line_next}
use Rattle.cyc_select.proofs.effects.Views.{Contents, written}
use Rattle.cyc_select.proofs.effects.Walks.{Now, now_at}
use Rattle.cyc_select.proofs.relation.Waiting.{preserved_of, Finds, after_line}
use Rattle.cyc_select.proofs.relation.Standing.{under_way, entering, stage_of, Standing, slot_address, standing_registers, standing_at, standing_slot, standing_unkept}
use Rattle.cyc_select.proofs.relation.Values.{Caches, caches_past, made_caches}

-- Returns the number of the register that holds the `k`-th word of a function's results.
abbrev pub result_register : ℕ → ℕ
result_register k = slice_index (2 ∷ 3 ∷ 5 ∷ []) k

-- `After` says that the observable effect of a step of the plain machine has happened, but not all lines of the
-- instruction have been executed.
abbrev pub After : (program : Program) (pages calls : ℕ) → Configuration → State → Type 0
After program pages calls c t =
    (labelled.status_of t ≡ simulation.Running) × (next : states.State) × Step program pages calls (states.Running c) next × (labelled.seen_of t ≡ states.seen_of next)

-- Returns true if control passes from an instruction only to the next one.
abbrev pub is_straight : Instruction → Bool
is_straight (plain.Move destination source) = true
is_straight (plain.Unary operator destination operand) = true
is_straight (plain.Binary operator destination left right) = true
is_straight (plain.ReadByte destination) = true
is_straight (plain.WriteByte source) = true
is_straight (plain.StoreGlobal global source) = true
is_straight i = false

-- `HasMore` says that an instruction has another line after its first one, or passes control only to the next instruction.
abbrev pub HasMore : Frame → Instruction → Type 0
HasMore frame (plain.Branch comparison left right target) = 0 < test_count frame (test_of comparison left right)
HasMore frame i = is_straight i ≡ true

module _ (program : Program) (well : IsWellFormed program) (frames : List Frame) (fit : AreFrames program frames) (code : Labelled) (formed : IsFormed code) (addresses : ℕ → ℕ) (pages calls : ℕ) (few : calls ≤ 4096) where
  abbrev pub At : ℕ → (out input : List ℕ) → (r : Words) (w : Contents) → labelled.Configuration → Type 0
  At line out input r w run = Now code formed addresses globals_length (words_per_call * calls) line out input r w run

  -- `Ready` relates a plain configuration to a machine state in which the first line of the next instruction comes next.
  pub record Ready (c : Configuration) (t : State) : Type 0 where
    pub run : labelled.Configuration
    pub r : Words
    pub w : Contents
    pub base : ℕ
    pub back : ℕ
    pub is : t ≡ Running run
    pub now : At (instruction_line program frames c.active.function c.active.next) c.output c.input r w run
    pub standing : Standing program frames addresses pages calls c r w base back (stage_of frames c) c.active.slots
    pub caches : Caches program frames c.active.function c.active.next r c.active.slots

  -- `Entered` relates states after a call: the lines that save registers come before those of the function's first instruction.
  -- After the call the arguments are where callers put them.
  pub record Entered (c : Configuration) (t : State) : Type 0 where
    pub run : labelled.Configuration
    pub r : Words
    pub w : Contents
    pub base : ℕ
    pub is : t ≡ Running run
    pub first : c.active.next ≡ 0
    pub now : At (function_line program frames c.active.function) c.output c.input r w run
    pub standing : Standing program frames addresses pages calls c r w base (r RETURN_ADDRESS) entering c.active.slots
    pub came : (slot k : ℕ) → value_register (coming (frame_at frames c.active.function)) slot ≡ Some k → IsLiveAt program (routine_at program c.active.function) slot 0 → r k ≡ c.active.slots slot
    pub there : (slot : ℕ) → slot < (routine_at program c.active.function).parameters → is_kept (coming (frame_at frames c.active.function)) slot ≡ true
        → w.words (base + slot_offset (frame_at frames c.active.function) slot) ≡ c.active.slots slot

  -- `Back` relates states after a return: the lines that follow the call come before those of the next instruction. The results are in
  -- the result registers, and the callee-saved registers are preserved.
  pub record Back (c : Configuration) (t : State) : Type 0 where
    pub run : labelled.Configuration
    pub r : Words
    pub w : Contents
    pub base : ℕ
    pub index : ℕ
    pub callee : ℕ
    pub arguments : ℕ
    pub count : ℕ
    pub result : ℕ
    pub waiting : Words
    pub values : Words
    pub first : ℕ
    pub is : t ≡ Running run
    pub next : c.active.next ≡ index + 1
    pub call : instruction_at program (record { function = c.active.function; index = index }) ≡ Some (plain.Call callee arguments count result)
    pub now : At (after_line program frames c.active.function index callee arguments count result) c.output c.input r w run
    pub standing : Standing program frames addresses pages calls c r w base (w.words (base + 4 * (frame_at frames c.active.function).return_address)) (under_way true) waiting
    pub returned : (k : ℕ) → k < (routine_at program callee).results → r (result_register k) ≡ values (first + k)
    pub finds : Finds program frames c.active.function index callee arguments count result (preserved_of r) waiting
    pub slots : c.active.slots ≡ copied values first (routine_at program callee).results waiting result

  -- `Landed` relates states in which an exception has just reached a handler of this call. The handler's lines come next, and the
  -- exception's tag and value are in registers.
  pub record Landed (c : Configuration) (t : State) : Type 0 where
    pub run : labelled.Configuration
    pub r : Words
    pub w : Contents
    pub base : ℕ
    pub first : ℕ
    pub handler : ℕ
    pub handlers : List states.Handler
    pub waiting : Words
    pub is : t ≡ Running run
    pub opened : instruction_at program (states.place_of (states.Running c)) ≡ Some (plain.Try first handler)
    pub caught : c.active.handlers ≡ states.Caught ∷ handlers
    pub now : At (instruction_line program frames c.active.function c.active.next + 3) c.output c.input r w run
    pub standing : Standing program frames addresses pages calls (record c { active = record c.active { handlers = handlers } }) r w base (w.words (base + 4 * (frame_at frames c.active.function).return_address)) (under_way true) waiting
    pub slots : c.active.slots ≡ put (put waiting first (r 4)) (suc first) (r 5)

  -- `Begun` relates states in which the first line of this instruction was already executed, as a copy hoisted before the branch to it.
  -- `before` is the configuration before the hoisted copy of the instruction's first line is executed.
  pub record Begun (c : Configuration) (t : State) : Type 0 where
    pub run : labelled.Configuration
    pub before : labelled.Configuration
    pub i : Instruction
    pub is : t ≡ Running run
    pub ready : Ready c (Running before)
    pub at : instruction_at program (states.place_of (states.Running c)) ≡ Some i
    pub more : HasMore (frame_at frames c.active.function) i
    pub busy : is_idle (frame_at frames c.active.function) c.active.next i ≡ false
    pub output : run.output ≡ c.output
    pub input : run.input ≡ c.input
    pub goes : labelled.Step code addresses (Running before) (Running run)

  abbrev pub Matches : states.State → State → Type 0
  Matches (states.Running c) t = Ready c t ⊎ (Back c t ⊎ (Landed c t ⊎ (Entered c t ⊎ Begun c t)))
  Matches (states.Ended ending out input) t = t ≡ Ended ending out input
  Matches (states.Stuck out input) t = ⊥

  -- `Reached` says that a step of the plain machine leads to a state that matches the state `t` of the labelled machine.
  abbrev pub Reached : Configuration → State → Type 0
  Reached c t = (next : states.State) × Step program pages calls (states.Running c) next × Matches next t

  -- Returns the number of instructions of the current function from the next one on.
  abbrev pub weight : states.State → ℕ
  weight (states.Running c) = length (routine_at program c.active.function).code - c.active.next
  weight (states.Ended ending out input) = 0
  weight (states.Stuck out input) = 0

  -- `Passed` says that the plain machine steps to the next instruction and its new state already matches `t`, so the labelled machine need
  -- not step.
  abbrev pub Passed : Configuration → State → Type 0
  Passed c t =
      (next : states.State) × Step program pages calls (states.Running c) next × Matches next t × (weight next < weight (states.Running c))

  pub within : (d : Configuration) → demand d.store ≤ pages → suc (length d.frames) ≤ calls → is_within pages calls (states.Running d) ≡ true
  within d paged deep = and_from _ _ (le-leb (demand d.store) pages paged) (le-leb (suc (length d.frames)) calls deep)

  -- The plain machine performs a step under two conditions: the choice of the values that the step leaves open is allowed, and the effect
  -- stays within the limits. The limits concern store pages and nested calls.
  pub steps_to : (c : Configuration) (choice : Choice) (i : Instruction) (next : states.State) → IsAllowed program (states.Running c) choice
      → instruction_at program (states.place_of (states.Running c)) ≡ Some i → performed program choice c i ≡ next → is_within pages (limit_of (Some i) calls) next ≡ true → Step program pages calls (states.Running c) next
  steps_to c choice i next allowed at does keeps =
      let is : step program choice (states.Running c) ≡ next = ap (executed program choice c) at ∙ does in
      let keeps_step : is_within pages (limit_of (Some i) calls) (step program choice (states.Running c)) ≡ true = ap (is_within pages (limit_of (Some i) calls)) is ∙ keeps in
      let limit : limit_at program (states.Running c) calls ≡ limit_of (Some i) calls = ap (λ (o : Option Instruction). limit_of o calls) at in
      (choice, allowed, sym (ap (λ (n : ℕ). limited pages n (states.Running c) (step program choice (states.Running c))) limit ∙ limited-within pages (limit_of (Some i) calls) (states.Running c) (step program choice (states.Running c)) keeps_step ∙ is))

  pub reached : (c : Configuration) (choice : Choice) (i : Instruction) (next : states.State) (t : State) → IsAllowed program (states.Running c) choice
      → instruction_at program (states.place_of (states.Running c)) ≡ Some i → performed program choice c i ≡ next → is_within pages (limit_of (Some i) calls) next ≡ true → Matches next t → Reached c t
  reached c choice i next t allowed at does keeps matches = (next, steps_to c choice i next allowed at does keeps, matches)

  module _ (c : Configuration) (i : Instruction) (at : instruction_at program (states.place_of (states.Running c)) ≡ Some i) (free : calls_nothing i ≡ true) (r : Words) (w : Contents) (base back : ℕ)
      (s : Standing program frames addresses pages calls c r w base back (stage_of frames c) c.active.slots) (caches : Caches program frames c.active.function c.active.next r c.active.slots) where
    -- A write to a slot, in memory only if the slot's home includes memory, keeps the relation between the labelled and the plain machine.
    put_slot : (b : Bool) (slot word : ℕ) → slot < (routine_at program c.active.function).slots → is_kept (frame_at frames c.active.function) slot ≡ b
        → Standing program frames addresses pages calls c r (if b then written w (base + slot_offset (frame_at frames c.active.function) slot) word else w) base back (stage_of frames c) (put c.active.slots slot word)
    put_slot true slot word below kept = standing_slot program well frames fit addresses pages calls few c r w base back (stage_of frames c) c.active.slots s slot word below
    put_slot false slot word below unkept = standing_unkept program well frames fit addresses pages calls few c r w base back (stage_of frames c) c.active.slots s slot word unkept

    -- A step that writes a slot, and may read input, leads to a matching state of the labelled machine.
    pub reached_gives : (destination word : ℕ) (input : List ℕ) (line : ℕ) (run : labelled.Configuration) (r' : Words) (w' : Contents)
        → destination < (routine_at program c.active.function).slots
        → ((slot : ℕ) → slot ≢ destination → writes program i slot ≡ false) → writes program i destination ≡ true → leads i c.active.next (c.active.next + 1) ≡ true
        → performed program zeros c i ≡ gives (record c { input = input }) destination word
        → AllByRecursion IsWord input
        → line ≡ instruction_line program frames c.active.function c.active.next + count_of program frames c.active.function c.active.next i
        → r' 0 ≡ r 0 → r' FRAME ≡ r FRAME → r' LOWEST ≡ r LOWEST → r' RETURN_ADDRESS ≡ r RETURN_ADDRESS → lasting r' ≡ lasting r
        → ((k : ℕ) → value_register (frame_at frames c.active.function) destination ≡ Some k → r' k ≡ word)
        → ((n : ℕ) → 6 ≤ n → n < 24 → (value_register (frame_at frames c.active.function) destination ≡ Some n → ⊥) → r' n ≡ r n)
        → w' ≡ (if is_kept (frame_at frames c.active.function) destination then written w (memory_address (r FRAME) (slot_offset (frame_at frames c.active.function) destination)) word else w)
        → At line c.output input r' w' run → Reached c (Running run)
    reached_gives destination word input line run r' w' below unwritten gets led does fine line_is zero_same base_same lowest_same back_same lasts_same result others puts now =
        let d : Configuration = record c { active = record c.active { next = c.active.next + 1; slots = put c.active.slots destination word }; input = input } in
        let address = slot_address program well frames fit addresses pages calls few c r w base back (stage_of frames c) c.active.slots s destination below in
        let in_place = put_slot (is_kept (frame_at frames c.active.function) destination) destination word below refl in
        let in_w' : Standing program frames addresses pages calls c r w' base back (stage_of frames c) (put c.active.slots destination word) =
        subst (λ (x : Contents). Standing program frames addresses pages calls c r x base back (stage_of frames c) (put c.active.slots destination word))
        (sym (puts ∙ ap (λ (a : ℕ). if is_kept (frame_at frames c.active.function) destination then written w a word else w) address)) in_place in
        let in_r' = standing_registers program well frames fit addresses pages calls few c r w' base back (stage_of frames c) (put c.active.slots destination word) in_w' r' zero_same base_same lowest_same (λ outside. back_same) lasts_same
        (λ j past high. others (17 + j) (omega arith) (omega (arith, high)) (λ has. absurd (let saved = (fit.homes c.active.function s.known).saved_registers destination (17 + j) has (omega arith) in omega (arith, saved, past)))) in
        let there = standing_at program well frames fit addresses pages calls few c r' w' base back (stage_of frames c) (put c.active.slots destination word) in_r' d refl refl refl refl refl refl fine in
        let line_same : line ≡ instruction_line program frames c.active.function (c.active.next + 1) = line_is ∙ sym (line_next program frames c.active.function c.active.next i at) in
        reached c zeros i (states.Running d) (Running run) (zeros_at program c i at free) at does (ap (λ (n : ℕ). is_within pages n (states.Running d)) (limit_free i calls free) ∙ within d s.laid.paged s.deep)
        (inl (record {
          run = run;
          r = r';
          w = w';
          base = base;
          back = back;
          is = refl;
          now = now_at code formed addresses globals_length (words_per_call * calls) line (instruction_line program frames c.active.function (c.active.next + 1)) c.output input r' w' run line_same now;
          standing = there;
          caches = made_caches program frames c.active.function (fit.homes c.active.function s.known) c.active.next destination word r r' c.active.slots i at unwritten gets led result others caches;
        }))

    -- A step that stays in the function's code and may print leads to a state in which the next instruction's first line comes next
    -- (`Ready`).
    pub ready_by : (d : Configuration) (line : ℕ) (run : labelled.Configuration) (r' : Words) (w' : Contents)
        → d.active.function ≡ c.active.function → d.active.base ≡ c.active.base → d.active.handlers ≡ c.active.handlers → d.active.slots ≡ c.active.slots → d.frames ≡ c.frames → d.globals ≡ c.globals → d.store ≡ c.store → d.input ≡ c.input
        → line ≡ instruction_line program frames d.active.function d.active.next
        → r' 0 ≡ r 0 → r' FRAME ≡ r FRAME → r' LOWEST ≡ r LOWEST → r' RETURN_ADDRESS ≡ r RETURN_ADDRESS → lasting r' ≡ lasting r
        → ((j : ℕ) → (frame_at frames c.active.function).saved ≤ j → j < 7 → r' (17 + j) ≡ r (17 + j)) → w' ≡ w
        → Caches program frames c.active.function d.active.next r' d.active.slots
        → At line d.output d.input r' w' run → Ready d (Running run)
    ready_by d line run r' w' function_same place_same handlers_same slots_same frames_same globals_same store_same input_same line_is zero_same base_same lowest_same back_same lasts_same preserved_same unchanged cached now =
        let in_r' = standing_registers program well frames fit addresses pages calls few c r w base back (stage_of frames c) c.active.slots s r' zero_same base_same lowest_same (λ outside. back_same) lasts_same preserved_same in
        let fine : AllByRecursion IsWord d.input = subst (λ (l : List ℕ). AllByRecursion IsWord l) (sym input_same) s.input in
        let there = standing_at program well frames fit addresses pages calls few c r' w base back (stage_of frames c) c.active.slots in_r' d function_same place_same handlers_same frames_same globals_same store_same fine in
        let with_slots = subst (λ (x : Words). Standing program frames addresses pages calls d r' w base back (stage_of frames c) x) (sym slots_same) there in
        let with_function = subst (λ (f : ℕ). Standing program frames addresses pages calls d r' w base back (under_way (frame_at frames f).saves) d.active.slots) (sym function_same) with_slots in
        record {
          run = run;
          r = r';
          w = w';
          base = base;
          back = back;
          is = refl;
          now = now_at code formed addresses globals_length (words_per_call * calls) line (instruction_line program frames d.active.function d.active.next) d.output d.input r' w' run line_is now;
          standing = subst (λ (x : Contents). Standing program frames addresses pages calls d r' x base back (stage_of frames d) d.active.slots) (sym unchanged) with_function;
          caches = subst (λ (n : ℕ). Caches program frames n d.active.next r' d.active.slots) (sym function_same) cached;
        }

    -- The plain machine performs a step of an instruction that stays in the function's code and may print.
    pub steps_by : (d : Configuration) (u : State) → Ready d u → performed program zeros c i ≡ states.Running d → Step program pages calls (states.Running c) (states.Running d)
    steps_by d u ready does =
        steps_to c zeros i (states.Running d) (zeros_at program c i at free) at does
        (ap (λ (n : ℕ). is_within pages n (states.Running d)) (limit_free i calls free) ∙ within d ready.standing.laid.paged ready.standing.deep)

    pub reached_at : (d : Configuration) (line : ℕ) (run : labelled.Configuration) (r' : Words) (w' : Contents)
        → d.active.function ≡ c.active.function → d.active.base ≡ c.active.base → d.active.handlers ≡ c.active.handlers → d.active.slots ≡ c.active.slots → d.frames ≡ c.frames → d.globals ≡ c.globals → d.store ≡ c.store → d.input ≡ c.input
        → performed program zeros c i ≡ states.Running d
        → line ≡ instruction_line program frames d.active.function d.active.next
        → r' 0 ≡ r 0 → r' FRAME ≡ r FRAME → r' LOWEST ≡ r LOWEST → r' RETURN_ADDRESS ≡ r RETURN_ADDRESS → lasting r' ≡ lasting r → ValuesSame r' r → w' ≡ w
        → ((slot : ℕ) → writes program i slot ≡ false) → leads i c.active.next d.active.next ≡ true
        → At line d.output d.input r' w' run → Reached c (Running run)
    reached_at d line run r' w' function_same place_same handlers_same slots_same frames_same globals_same store_same input_same does line_is zero_same base_same lowest_same back_same lasts_same values unchanged unwritten led now =
        let ready = ready_by d line run r' w' function_same place_same handlers_same slots_same frames_same globals_same store_same input_same line_is zero_same base_same lowest_same back_same lasts_same
        (λ j past high. values (17 + j) (omega arith) (omega (arith, high))) unchanged
        (caches_past program frames c.active.function (fit.homes c.active.function s.known) c.active.next d.active.next r r' c.active.slots d.active.slots i at led
        (λ slot k has. unwritten slot) (λ slot k has. ap (λ (x : Words). x slot) slots_same) values caches) now in
        (states.Running d, steps_by d (Running run) ready does, inl ready)

  -- If the check for stack space succeeds, the plain machine's step leads to a matching state.
  pub reached_entering : (c : Configuration) (callee : ℕ) (choice : Choice) (run : labelled.Configuration) (r : Words) (w : Contents) (base back line : ℕ)
      → instruction_at program (states.place_of (states.Running c)) ≡ Some (plain.Enter callee) → IsAllowed program (states.Running c) choice
      → Standing program frames addresses pages calls c r w base back (stage_of frames c) c.active.slots → Caches program frames c.active.function c.active.next r c.active.slots
      → suc (suc (length c.frames)) ≤ calls → (suc c.active.next == c.active.next + 1) ≡ true → line ≡ instruction_line program frames c.active.function (c.active.next + 1)
      → At line c.output c.input r w run → Reached c (Running run)
  reached_entering c callee choice run r w base back line at allowed s caches room led line_is now =
      let i : Instruction = plain.Enter callee in
      let d : Configuration = record c { active = record c.active { next = c.active.next + 1 } } in
      let there = standing_at program well frames fit addresses pages calls few c r w base back (stage_of frames c) c.active.slots s d refl refl refl refl refl refl s.input in
      reached c choice i (states.Running d) (Running run) allowed at refl
      (and_from _ _ (le-leb (demand c.store) pages s.laid.paged) (le-leb (suc (length c.frames)) (calls - 1) (omega (arith, room))))
      (inl (record {
        run = run;
        r = r;
        w = w;
        base = base;
        back = back;
        is = refl;
        now = now_at code formed addresses globals_length (words_per_call * calls) line (instruction_line program frames c.active.function (c.active.next + 1)) c.output c.input r w run line_is now;
        standing = there;
        caches =
            caches_past program frames c.active.function (fit.homes c.active.function s.known) c.active.next (c.active.next + 1) r r c.active.slots c.active.slots i at led
            (λ slot k has. refl) (λ slot k has. refl) (λ n low high. refl) caches;
      }))
