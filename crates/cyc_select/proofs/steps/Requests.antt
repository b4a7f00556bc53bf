-- The simulation of the instruction that makes a request to the store (the heap of regions).
use Rattle.std.proofs.Common.{◌≡◌, ◌≢◌, ℕ, suc, ◌+◌, ◌*◌, ◌%◌, ◌^◌, ◌<◌, ◌≤◌, true, false, List, [], ◌∷◌, ◌++◌, length, length-append, Option, None, Some, refl, sym, ap, subst, ◌∙◌, arith, inl}
use Rattle.std.specs.Prelude.{◌⊎◌}
use Rattle.std.proofs.lemmas.Bool.{eq-eqb, ne_eqb, or_left, or_right}
use Rattle.cyc_words.specs.Ending.{Full}
use Rattle.cyc_words.specs.Word.{IsWord, add_of, sign_extended}
use Rattle.cyc_words.proofs.Numbers.{outside_one, eqb_next}
use Rattle.cyc_words.proofs.Options.{same_from_some}
use Rattle.cyc_plain.specs.inside.Uses.{is_slot, request_reads, request_writes}
use Rattle.cyc_isa.specs.Effect.{memory_address}
use Rattle.cyc_isa.specs.declared.instr.Instr.{Instr}
use Rattle.cyc_machine_model.specs.State.{globals_length, words_per_call}
use Rattle.cyc_machine_model.specs.declared.constants.TheConstants.{ARGUMENT, RETURN_ADDRESS, SECOND_ARGUMENT, SERVICE}
use Rattle.cyc_store.specs.State.{StoreState, lexical_count}
use Rattle.cyc_store.specs.Services as services
use Rattle.cyc_store.specs.Services.{Call, Answer, refusal, served, answer}
use Rattle.cyc_store.specs.Soundness.{IsSound}
use Rattle.cyc_plain.specs.declared.instruction.Instruction.{Instruction}
use Rattle.cyc_plain.specs.declared.instruction.Instruction.TheVariants as plain
use Rattle.cyc_plain.specs.declared.instruction.Operand.{Operand}
use Rattle.cyc_plain.specs.declared.instruction.Request.{Request}
use Rattle.cyc_plain.specs.declared.instruction.Request.TheVariants as requests
use Rattle.cyc_plain.specs.inside.Requests.{first_operand, second_operand, answer_count, destination_of}
use Rattle.cyc_plain.specs.inside.Program.{Program, routine_at}
use Rattle.cyc_plain.specs.inside.State as states
use Rattle.cyc_plain.specs.inside.State.{Words, put, Configuration}
use Rattle.cyc_plain.specs.inside.Step.{Choice, IsAllowed, MayServe, call_in, call_of, asked, reported, asks, instruction_at, operand_word, performed, with_slots, advanced}
use Rattle.cyc_plain.specs.inside.WellFormed.{IsOperand, IsOfWord, IsArgument, IsArgumentOfWord, IsRequestInRange, IsWellFormed}
use Rattle.cyc_plain.proofs.SlotLaws.{put-other}
use Rattle.cyc_plain.proofs.RunLaws.{zeros, zeros_refused, over_within, lies_at}
use Rattle.cyc_registers.specs.inside.Interference.{AreHomes}
use Rattle.cyc_frame.specs.inside.Layout.{AreFrames, frame_at}
use Rattle.cyc_frame.specs.inside.Frame.{Frame}
use Rattle.cyc_select.specs.declared.constants.TheConstants.{LOWEST, FRAME, HANDLERS, REGIONS, GLOBALS}
use Rattle.cyc_select.specs.inside.Labelled.{Labelled, IsFormed}
use Rattle.cyc_select.specs.inside.Machine as labelled
use Rattle.cyc_select.specs.inside.Machine.{State, Running, Ended}
use Rattle.cyc_select.specs.inside.Instructions.{small, syscall, slot_offset}
use Rattle.cyc_select.specs.inside.Slots.{value_register, store_all, result_registers}
use Rattle.cyc_select.specs.inside.Operands.{gives_count}
use Rattle.cyc_select.specs.inside.Counts.{argument_count, regions_count, ask_count, instruction_line}
use Rattle.cyc_select.specs.inside.Selection.{ordinary, argument_code, service_number, answer_code, regions_code, body}
use Rattle.cyc_select.proofs.steps.Answers.{put_all, results_low, AreBrought, are_brought}
use Rattle.cyc_select.proofs.values.Blocks.{ValuesSame, safe_append}
use Rattle.cyc_select.proofs.values.Computing.{IsHeld, load_puts}
use Rattle.cyc_select.proofs.emission.Counts.{service_small, length_argument, length_answer, length_regions, length_registers, answer_few}
use Rattle.cyc_select.proofs.effects.Effects.{call_by}
use Rattle.cyc_select.proofs.relation.Held.{operand_held}
use Rattle.cyc_select.proofs.layout.Lines.{line_next}
use Rattle.cyc_select.proofs.relation.Matches.{After, At, Reached, reached, within}
use Rattle.cyc_select.proofs.values.Operations.{add_small}
use Rattle.cyc_select.proofs.relation.Standing.{Stage, Standing, slot_address, slot_cell, standing_at, standing_slot, standing_store, stage_of}
use Rattle.cyc_select.proofs.relation.Stores.{lexical_opened, lexical_besides, lexical_left, lexical_made, lexical_closed, marks_few, IsLaid, served_laid, served_words}
use Rattle.cyc_select.proofs.relation.Values.{Caches, live_earlier, among, outside_among}
use Rattle.cyc_select.proofs.effects.Views.{Contents, IsWritable, written, answered_r}
use Rattle.cyc_select.proofs.effects.Sequences.{Stands, stands_first, stands_after, after_r, after_w, AreSafe, after_r-append, after_w-append}
use Rattle.cyc_select.proofs.effects.Walks.{Walk, now_at, now_is, walk_few, walk_block, walk_served, walk_no_room, comes_block, lines_from, lines_rise}
use Rattle.cyc_registers.specs.inside.Liveness.{IsLiveAt}

-- ---- the request and its result

-- If the argument registers hold the operands of a request, they describe the call of the store that the request makes.
is_call : (request : Request) (slots q : Words) → ((operand : Operand) → first_operand request ≡ Some operand → q 4 ≡ operand_word slots operand)
    → ((operand : Operand) → second_operand request ≡ Some operand → q 5 ≡ operand_word slots operand) → call_by request (q 4) (q 5) ≡ call_in slots request
is_call (requests.OpenLexical destination) slots q first second = refl
is_call (requests.CloseTo mark) slots q first second = ap services.CloseTo (first mark refl)
is_call (requests.OpenDynamic destination) slots q first second = refl
is_call (requests.CloseDynamic handle) slots q first second = ap services.CloseDynamic (first handle refl)
is_call (requests.Allocate destination handle words) slots q first second =
    ap (λ (x : ℕ). services.Allocate x (q 5)) (first handle refl) ∙ ap (services.Allocate (operand_word slots handle)) (second words refl)
is_call (requests.Free address) slots q first second = ap services.Free (first address refl)

-- The result registers hold the store's result after the lines that update the number of open regions.
reported_is : (request : Request) (store : StoreState) (slots q : Words) (m : Contents) (choice : services.Choice)
    → put_all (destination_of request) (result_registers (answer_count request)) (after_r (regions_code request) (answered_r (answer store (call_in slots request) choice) q) m) slots
    ≡ reported (answer store (call_in slots request) choice) (destination_of request) slots
reported_is (requests.OpenLexical destination) store slots q m choice = refl
reported_is (requests.CloseTo mark) store slots q m choice = refl
reported_is (requests.OpenDynamic destination) store slots q m choice = refl
reported_is (requests.CloseDynamic handle) store slots q m choice = refl
reported_is (requests.Allocate destination handle words) store slots q m choice = refl
reported_is (requests.Free address) store slots q m choice = refl

-- A request to the store (the heap of regions) writes exactly the destination slots of its result.
answers_written : (request : Request) (slot : ℕ) → destination_of request ≤ slot → slot < destination_of request + length (result_registers (answer_count request)) → request_writes request slot ≡ true
answers_written (requests.OpenLexical destination) slot begun below = among destination 2 slot begun below
answers_written (requests.CloseTo mark) slot begun below = absurd (omega (arith, begun, below))
answers_written (requests.OpenDynamic destination) slot begun below = eq-eqb destination slot (omega (arith, begun, below))
answers_written (requests.CloseDynamic handle) slot begun below = absurd (omega (arith, begun, below))
answers_written (requests.Allocate destination handle words) slot begun below = eq-eqb destination slot (omega (arith, begun, below))
answers_written (requests.Free address) slot begun below = absurd (omega (arith, begun, below))

answers_apart : (request : Request) (slot : ℕ) → slot < destination_of request ⊎ destination_of request + length (result_registers (answer_count request)) ≤ slot → request_writes request slot ≡ false
answers_apart (requests.OpenLexical destination) slot outside = outside_among destination 2 slot outside
answers_apart (requests.CloseTo mark) slot outside = refl
answers_apart (requests.OpenDynamic destination) slot outside = ne_eqb destination slot (outside_one destination slot outside)
answers_apart (requests.CloseDynamic handle) slot outside = refl
answers_apart (requests.Allocate destination handle words) slot outside = ne_eqb destination slot (outside_one destination slot outside)
answers_apart (requests.Free address) slot outside = refl

-- ---- the number of open lexical regions

regions_safe : (globals stack : ℕ) (request : Request) (q : Words) (m : Contents) → AreSafe globals stack (regions_code request) q m
regions_safe globals stack (requests.OpenLexical destination) q m = (refl, tt)
regions_safe globals stack (requests.CloseTo mark) q m = (refl, tt)
regions_safe globals stack (requests.OpenDynamic destination) q m = tt
regions_safe globals stack (requests.CloseDynamic handle) q m = tt
regions_safe globals stack (requests.Allocate destination handle words) q m = tt
regions_safe globals stack (requests.Free address) q m = tt

regions_memory : (request : Request) (q : Words) (m : Contents) → after_w (regions_code request) q m ≡ m
regions_memory (requests.OpenLexical destination) q m = refl
regions_memory (requests.CloseTo mark) q m = refl
regions_memory (requests.OpenDynamic destination) q m = refl
regions_memory (requests.CloseDynamic handle) q m = refl
regions_memory (requests.Allocate destination handle words) q m = refl
regions_memory (requests.Free address) q m = refl

regions_others : (request : Request) (q : Words) (m : Contents) (n : ℕ) → n ≢ REGIONS → after_r (regions_code request) q m n ≡ q n
regions_others (requests.OpenLexical destination) q m n other = put-other q REGIONS n _ other
regions_others (requests.CloseTo mark) q m n other = put-other q REGIONS n _ other
regions_others (requests.OpenDynamic destination) q m n other = refl
regions_others (requests.CloseDynamic handle) q m n other = refl
regions_others (requests.Allocate destination handle words) q m n other = refl
regions_others (requests.Free address) q m n other = refl

-- After the lines that update it, the register `REGIONS` holds the number of open lexical regions.
regions_reported : (request : Request) (store : StoreState) (slots q : Words) (m : Contents) (choice : services.Choice) → IsSound store → refusal store (call_in slots request) ≡ None
    → ((operand : Operand) → first_operand request ≡ Some operand → q 4 ≡ operand_word slots operand) → q REGIONS ≡ lexical_count store.regions % 2 ^ 32
    → after_r (regions_code request) (answered_r (answer store (call_in slots request) choice) q) m REGIONS ≡ lexical_count (served store (call_in slots request) choice).regions % 2 ^ 32
unfolding sign_extended
regions_reported (requests.OpenLexical destination) store slots q m choice sound free first before =
    ap (λ (n : ℕ). n % 2 ^ 32) (sym (lexical_opened store.regions choice.handle))
regions_reported (requests.CloseTo mark) store slots q m choice sound free first before =
    let same : q 4 + 0 ≡ operand_word slots mark = omega (arith, first mark refl) in
    ap (λ (n : ℕ). n % 2 ^ 32) (same ∙ sym (lexical_left (operand_word slots mark) store.regions (marks_few store (operand_word slots mark) free)))
regions_reported (requests.OpenDynamic destination) store slots q m choice sound free first before =
    before ∙ ap (λ (n : ℕ). n % 2 ^ 32) (sym (lexical_besides store.regions choice.handle))
regions_reported (requests.CloseDynamic handle) store slots q m choice sound free first before =
    before ∙ ap (λ (n : ℕ). n % 2 ^ 32) (sym (lexical_closed store (operand_word slots handle) sound free))
regions_reported (requests.Allocate destination handle words) store slots q m choice sound free first before =
    before ∙ ap (λ (n : ℕ). n % 2 ^ 32) (sym (lexical_made store (operand_word slots handle) (services.block_of (operand_word slots handle) (operand_word slots words) choice)))
regions_reported (requests.Free address) store slots q m choice sound free first before = before

-- The result of a request to the store (the heap of regions) changes only the two result registers.
answered-other : (a : Answer) (q : Words) (n : ℕ) → n ≢ 2 → n ≢ 3 → answered_r a q n ≡ q n
answered-other (services.Refused why) q n first second = refl
answered-other services.Done q n first second = refl
answered-other (services.Opened handle) q n first second = put-other q 2 n handle first
answered-other (services.OpenedLexical handle mark) q n first second = put-other (put q 2 handle) 3 n mark second ∙ put-other q 2 n handle first
answered-other (services.Allocated address) q n first second = put-other q 2 n address first

module _ (program : Program) (well : IsWellFormed program) (frames : List Frame) (fit : AreFrames program frames) (addresses : ℕ → ℕ) (pages calls : ℕ) (few : calls ≤ 4096)
    (c : Configuration) (q : Words) (base back : ℕ) (stage : Stage) where
  -- `AreStored` describes the effect of writing the result registers to consecutive slots.
  pub record AreStored (slot : ℕ) (sources : List ℕ) (m : Contents) (slots : Words) : Type 0 where
    pub safe : AreSafe globals_length (words_per_call * calls) (store_all (frame_at frames c.active.function) slot sources) q m
    pub same : after_r (store_all (frame_at frames c.active.function) slot sources) q m ≡ q
    pub standing : Standing program frames addresses pages calls c q (after_w (store_all (frame_at frames c.active.function) slot sources) q m) base back stage (put_all slot sources q slots)

  pub are_stored : (slot : ℕ) (sources : List ℕ) (m : Contents) (slots : Words) → slot + length sources ≤ (routine_at program c.active.function).slots
      → Standing program frames addresses pages calls c q m base back stage slots → AreStored slot sources m slots
  are_stored slot [] m slots fits s = record { safe = tt; same = refl; standing = s }
  are_stored slot (source ∷ sources) m slots fits s =
      let below : slot < (routine_at program c.active.function).slots = omega (arith, fits) in
      let there = slot_address program well frames fit addresses pages calls few c q m base back stage slots s slot below in
      let m1 : Contents = written m (memory_address (q FRAME) (slot_offset (frame_at frames c.active.function) slot)) (q (source % 32)) in
      let in_m1 : Standing program frames addresses pages calls c q m1 base back stage (put slots slot (q (source % 32))) =
      subst (λ (a : ℕ). Standing program frames addresses pages calls c q (written m a (q (source % 32))) base back stage (put slots slot (q (source % 32)))) (sym there)
      (standing_slot program well frames fit addresses pages calls few c q m base back stage slots s slot (q (source % 32)) below) in
      let rest = are_stored (suc slot) sources m1 (put slots slot (q (source % 32))) (omega (arith, fits)) in_m1 in
      record {
        safe = (slot_cell program well frames fit addresses pages calls few c q m base back stage slots s slot below, rest.safe);
        same = rest.same;
        standing = rest.standing;
      }

module _ (program : Program) (well : IsWellFormed program) (frames : List Frame) (fit : AreFrames program frames) (code : Labelled) (formed : IsFormed code) (addresses : ℕ → ℕ) (pages calls : ℕ) (few : calls ≤ 4096)
    (c : Configuration)
    (run : labelled.Configuration) (r : Words) (w : Contents) (base back : ℕ)
    (now : At program well frames fit code formed addresses pages calls few (instruction_line program frames c.active.function c.active.next) c.output c.input r w run)
    (s : Standing program frames addresses pages calls c r w base back (stage_of frames c) c.active.slots)
    (caches : Caches program frames c.active.function c.active.next r c.active.slots) where
  abbrev here : ℕ
  here = instruction_line program frames c.active.function c.active.next

  abbrev frame : Frame
  frame = frame_at frames c.active.function

  abbrev slots : ℕ
  slots = (routine_at program c.active.function).slots

  abbrev Goes : (least lo hi : ℕ) → State → Type 0
  Goes least lo hi t = Walk code formed addresses globals_length (words_per_call * calls) least lo hi c.output (After program pages calls c) (Reached program well frames fit code formed addresses pages calls few c) t

  abbrev IsAt : Instruction → Type 0
  IsAt i = instruction_at program (states.place_of (states.Running c)) ≡ Some i

  abbrev IsThere : Operand → Type 0
  IsThere o = IsOperand (routine_at program c.active.function) o × IsOfWord o

  abbrev word_in : Operand → ℕ
  word_in o = operand_word c.active.slots o

  abbrev Held : Operand → Type 0
  Held o = IsHeld globals_length (words_per_call * calls) frame (r FRAME) w r c.active.slots o

  homes_right : AreHomes program (routine_at program c.active.function) (frame_at frames c.active.function).saved (frame_at frames c.active.function).homes
  homes_right = fit.homes c.active.function s.known

  -- ---- the operands of a request

  -- `HasArgument` says that after the given instructions a register holds the word of an operand, if an operand is given, and that
  -- memory and all other registers are unchanged.
  record HasArgument (is : List Instr) (register : ℕ) (o : Option Operand) (q : Words) (m : Contents) : Type 0 where
    pub safe : AreSafe globals_length (words_per_call * calls) is q m
    pub memory : after_w is q m ≡ m
    pub others : (n : ℕ) → n < 32 → n ≢ register → after_r is q m n ≡ q n
    pub result : (operand : Operand) → o ≡ Some operand → after_r is q m register ≡ word_in operand

  has_argument : (register : ℕ) → IsWritable (register % 32) → register % 32 ≡ register → (o : Option Operand) → IsArgument (routine_at program c.active.function) o → IsArgumentOfWord o
      → ((operand : Operand) → o ≡ Some operand → IsThere operand → Held operand)
      → (q : Words) (m : Contents) → q 0 ≡ 0 → q FRAME ≡ r FRAME → m ≡ w → ValuesSame q r → HasArgument (argument_code frame register o) register o q m
  has_argument register writable is None there fits holds q m zero same memory values =
      record { safe = tt; memory = refl; others = λ n below other. refl; result = λ operand e. absurd (let none : None ≡ Some operand = e in cc) }
  has_argument register writable is (Some operand) there fits holds q m zero same memory values =
      let puts = load_puts globals_length (words_per_call * calls) frame (r FRAME) w r c.active.slots q m zero same memory values register writable operand (holds operand refl (there, fits)) in
      record {
        safe = puts.safe;
        memory = puts.memory;
        others = λ n below other. puts.others n below (λ e. other (e ∙ is));
        result = λ one e. ap (after_r (argument_code frame register (Some operand)) q m) (sym is) ∙ (puts.result ∙ ap word_in (same_from_some e));
      }

  -- ---- the call

  module _ (request : Request) (at_i : IsAt (plain.Ask request)) (in_range : IsRequestInRange (routine_at program c.active.function) request)
      (fits : IsArgumentOfWord (first_operand request) × IsArgumentOfWord (second_operand request))
      (stands : Stands code here (body program frames c.active.function here (plain.Ask request))) where
    abbrev call : Call
    call = call_in c.active.slots request

    abbrev is : List Instr
    is = argument_code frame ARGUMENT (first_operand request)

    abbrev js : List Instr
    js = argument_code frame SECOND_ARGUMENT (second_operand request)

    abbrev numbered : List Instr
    numbered = small SERVICE (service_number request) ∷ []

    abbrev answers : List Instr
    answers = answer_code frame request

    abbrev counts : List Instr
    counts = regions_code request

    abbrev last : List Instr
    last = small SERVICE (service_number request) ∷ syscall ∷ (regions_code request ++ answer_code frame request)

    abbrev hi : ℕ
    hi = here + ask_count frame request

    abbrev called : ℕ
    called = here + length is + length js + 1

    long : length is ≡ argument_count (first_operand request)
    long = length_argument frame ARGUMENT (first_operand request)

    more : length js ≡ argument_count (second_operand request)
    more = length_argument frame SECOND_ARGUMENT (second_operand request)

    stored_few : length (counts ++ answers) ≡ regions_count request + gives_count frame (destination_of request) (answer_count request)
    stored_few = omega (arith, length-append counts answers, length_regions request, length_answer frame request)

    -- The instruction that makes a request to the store reads the slots of the request's operands.
    first_used : (one : Request) (operand : Operand) (slot : ℕ) → first_operand one ≡ Some operand → is_slot operand slot ≡ true → request_reads one slot ≡ true
    first_used (requests.OpenLexical destination) operand slot some is_it = absurd (let e : None ≡ Some operand = some in cc)
    first_used (requests.CloseTo mark) operand slot some is_it = ap (λ (o : Operand). is_slot o slot) (same_from_some some) ∙ is_it
    first_used (requests.OpenDynamic destination) operand slot some is_it = absurd (let e : None ≡ Some operand = some in cc)
    first_used (requests.CloseDynamic handle) operand slot some is_it = ap (λ (o : Operand). is_slot o slot) (same_from_some some) ∙ is_it
    first_used (requests.Allocate destination handle words) operand slot some is_it = or_left (is_slot handle slot) (is_slot words slot) (ap (λ (o : Operand). is_slot o slot) (same_from_some some) ∙ is_it)
    first_used (requests.Free address) operand slot some is_it = ap (λ (o : Operand). is_slot o slot) (same_from_some some) ∙ is_it

    second_used : (one : Request) (operand : Operand) (slot : ℕ) → second_operand one ≡ Some operand → is_slot operand slot ≡ true → request_reads one slot ≡ true
    second_used (requests.OpenLexical destination) operand slot some is_it = absurd (let e : None ≡ Some operand = some in cc)
    second_used (requests.CloseTo mark) operand slot some is_it = absurd (let e : None ≡ Some operand = some in cc)
    second_used (requests.OpenDynamic destination) operand slot some is_it = absurd (let e : None ≡ Some operand = some in cc)
    second_used (requests.CloseDynamic handle) operand slot some is_it = absurd (let e : None ≡ Some operand = some in cc)
    second_used (requests.Allocate destination handle words) operand slot some is_it = or_right (is_slot handle slot) (is_slot words slot) (ap (λ (o : Operand). is_slot o slot) (same_from_some some) ∙ is_it)
    second_used (requests.Free address) operand slot some is_it = absurd (let e : None ≡ Some operand = some in cc)

    first : HasArgument is ARGUMENT (first_operand request) r w
    first = has_argument ARGUMENT refl refl (first_operand request) in_range.first_in_range fits.0
        (λ operand some there. operand_held program well frames fit code formed addresses pages calls few c run r w base back now s caches (plain.Ask request) at_i operand (λ slot is_it. first_used request operand slot some is_it) there)
        r w s.zero_is refl refl (λ n low high. refl)

    abbrev q : Words
    q = after_r is r w

    abbrev v : Contents
    v = after_w is r w

    second : HasArgument js SECOND_ARGUMENT (second_operand request) q v
    second =
        has_argument SECOND_ARGUMENT refl refl (second_operand request) in_range.second_in_range fits.1
        (λ operand some there. operand_held program well frames fit code formed addresses pages calls few c run r w base back now s caches (plain.Ask request) at_i operand (λ slot is_it. second_used request operand slot some is_it) there)
        q v
        (first.others 0 (omega arith) (λ e. absurd (omega (arith, e))) ∙ s.zero_is) (first.others FRAME (omega arith) (λ e. absurd (omega (arith, e)))) first.memory
        (λ n low high. first.others n (omega (arith, high)) (λ e. absurd (omega (arith, e, low))))

    abbrev p : Words
    p = after_r js q v

    unchanged : after_w js q v ≡ w
    unchanged = second.memory ∙ first.memory

    -- Loading the arguments of a request to the store changes no registers other than the argument registers.
    kept : (n : ℕ) → n < 32 → n ≢ ARGUMENT → n ≢ SECOND_ARGUMENT → p n ≡ r n
    kept n below other also = second.others n below also ∙ first.others n below other

    abbrev ready : Words
    ready = put p SERVICE (add_of (p 0) (sign_extended (service_number request)))

    number : ready SERVICE ≡ service_number request
    number =
        ap (λ (x : ℕ). add_of x (sign_extended (service_number request))) (kept 0 (omega arith) (λ e. absurd (omega (arith, e))) (λ e. absurd (omega (arith, e))) ∙ s.zero_is)
        ∙ (add_small 0 (service_number request) (omega (arith, service_small request)) (omega (arith, service_small request))
        ∙ (let e : 0 + service_number request ≡ service_number request = omega arith in e))

    call_is : call_by request (ready 4) (ready 5) ≡ call
    call_is =
        is_call request c.active.slots ready
        (λ operand e. second.others ARGUMENT (omega arith) (λ x. absurd (omega (arith, x))) ∙ first.result operand e)
        (λ operand e. second.result operand e)

    after_lines : Stands code (here + length is) (ordinary (js ++ last))
    after_lines = stands_after code here is (js ++ last) stands

    last_lines : Stands code (here + length is + length js) (ordinary last)
    last_lines = stands_after code (here + length is) js last after_lines

    -- The labelled machine (MIPS lines) simulates a request to the store by the lines that load its arguments and make the system call.
    called_goes : (n : ℕ) → 0 < n
        → ((d : labelled.Configuration) → At program well frames fit code formed addresses pages calls few called c.output c.input ready w d → Goes n called hi (Running d))
        → Goes 1 here hi (Running run)
    called_goes n some rest =
        walk_few code formed addresses globals_length (words_per_call * calls) 1 (length is + (length js + (1 + n))) here hi c.output _ (Running run) (omega (arith, some))
        (walk_block code formed addresses globals_length (words_per_call * calls) is (length js + (1 + n)) here here hi c.output c.input _ r w run now (stands_first code here is (js ++ last) stands) first.safe (omega arith)
        (λ d before.
        walk_block code formed addresses globals_length (words_per_call * calls) js (1 + n) (here + length is) (here + length is) hi c.output c.input _ q v d before (stands_first code (here + length is) js last after_lines) second.safe (omega arith)
        (λ e later.
        walk_block code formed addresses globals_length (words_per_call * calls) numbered n (here + length is + length js) (here + length is + length js) hi c.output c.input _ p (after_w js q v) e later (last_lines.0, tt) (refl, tt) (omega arith)
        (λ f after.
        rest f (now_is code formed addresses globals_length (words_per_call * calls) called c.output c.input ready (after_w js q v) ready w f refl unchanged after)))))

    -- If the store has no memory left for the result of the request, the run ends.
    full_goes : refusal c.store call ≡ Some services.Full → Goes 1 here hi (Running run)
    full_goes full =
        called_goes 1 (omega arith)
        (λ d later.
        walk_no_room code formed addresses globals_length (words_per_call * calls) request called called hi c.output c.input _ ready w d call c.store later last_lines.1.0 (omega arith) number call_is s.store
        (omega (arith, long, more)) full
        (reached program well frames fit code formed addresses pages calls few c zeros (plain.Ask request) (states.Ended Full c.output c.input) (Ended Full c.output c.input)
        (zeros_refused program c call services.Full (ap (call_of c.active.slots) at_i) full) at_i (ap (asks zeros.serving c (destination_of request) call) full)
        (over_within pages calls Full c.output c.input) refl))

    -- The module concerns a request that the store (the heap of regions) serves.
    module _ (free : refusal c.store call ≡ None) (chosen : services.Choice) (allowed : services.IsAllowed c.store call chosen) where
      abbrev choice : Choice
      choice = record { contents = zeros.contents; base = 0; serving = chosen }

      serves : MayServe chosen (asked program (states.Running c)) (states.Running c)
      serves =
          subst (λ (o : Option Call). MayServe chosen o (states.Running c)) (sym (ap (call_of c.active.slots) at_i))
          (λ unrefused. record { allowed = allowed; words = served_words pages c.store call chosen allowed s.laid })

      is_allowed : IsAllowed program (states.Running c) choice
      is_allowed = record { contents = λ slot. omega arith; lies = lies_at program c (plain.Ask request) 0 at_i refl; serves = serves }

      abbrev given : Answer
      given = answer c.store call chosen

      abbrev c1 : Configuration
      c1 = record c { store = served c.store call chosen }

      abbrev next : Configuration
      next = advanced (with_slots (record c { store = served c.store call chosen }) (reported (answer c.store call chosen) (destination_of request) c.active.slots))

      does : performed program choice c (plain.Ask request) ≡ states.Running next
      does = ap (asks chosen c (destination_of request) call) free

      abbrev w1 : Contents
      w1 = record w { store = served c.store call chosen }

      -- `answered` are the registers after the store's system call and before the lines that update the number of open regions.
      abbrev answered : Words
      answered = answered_r (answer c.store call chosen) ready

      abbrev final : Words
      final = after_r counts answered w1

      final_keeps : (n : ℕ) → n < 32 → n ≢ 2 → n ≢ 3 → n ≢ ARGUMENT → n ≢ SECOND_ARGUMENT → n ≢ REGIONS → final n ≡ r n
      final_keeps n below two three four five count =
          regions_others request answered w1 n count
          ∙ (answered-other given ready n two three
          ∙ (put-other p SERVICE n (add_of (p 0) (sign_extended (service_number request))) two ∙ kept n below four five))

      zero_kept : final 0 ≡ r 0
      zero_kept = final_keeps 0 (omega arith) (λ e. absurd (omega (arith, e))) (λ e. absurd (omega (arith, e))) (λ e. absurd (omega (arith, e))) (λ e. absurd (omega (arith, e))) (λ e. absurd (omega (arith, e)))

      base_kept : final FRAME ≡ r FRAME
      base_kept = final_keeps FRAME (omega arith) (λ e. absurd (omega (arith, e))) (λ e. absurd (omega (arith, e))) (λ e. absurd (omega (arith, e))) (λ e. absurd (omega (arith, e))) (λ e. absurd (omega (arith, e)))

      left_kept : final LOWEST ≡ r LOWEST
      left_kept = final_keeps LOWEST (omega arith) (λ e. absurd (omega (arith, e))) (λ e. absurd (omega (arith, e))) (λ e. absurd (omega (arith, e))) (λ e. absurd (omega (arith, e))) (λ e. absurd (omega (arith, e)))

      newest_kept : final HANDLERS ≡ r HANDLERS
      newest_kept = final_keeps HANDLERS (omega arith) (λ e. absurd (omega (arith, e))) (λ e. absurd (omega (arith, e))) (λ e. absurd (omega (arith, e))) (λ e. absurd (omega (arith, e))) (λ e. absurd (omega (arith, e)))

      middle_kept : final GLOBALS ≡ r GLOBALS
      middle_kept = final_keeps GLOBALS (omega arith) (λ e. absurd (omega (arith, e))) (λ e. absurd (omega (arith, e))) (λ e. absurd (omega (arith, e))) (λ e. absurd (omega (arith, e))) (λ e. absurd (omega (arith, e)))

      back_kept : final RETURN_ADDRESS ≡ r RETURN_ADDRESS
      back_kept = final_keeps RETURN_ADDRESS (omega arith) (λ e. absurd (omega (arith, e))) (λ e. absurd (omega (arith, e))) (λ e. absurd (omega (arith, e))) (λ e. absurd (omega (arith, e))) (λ e. absurd (omega (arith, e)))

      values_kept : ValuesSame final r
      values_kept n low high =
          final_keeps n (omega (arith, high)) (λ e. absurd (omega (arith, e, low))) (λ e. absurd (omega (arith, e, low))) (λ e. absurd (omega (arith, e, low))) (λ e. absurd (omega (arith, e, low))) (λ e. absurd (omega (arith, e, high)))

      laid : IsLaid pages (served c.store call chosen)
      laid = served_laid pages c.store call chosen free allowed s.laid

      count_reported : final REGIONS ≡ lexical_count (served c.store call chosen).regions % 2 ^ 32
      count_reported =
          regions_reported request c.store c.active.slots ready w1 chosen s.laid.sound free
          (λ operand e. second.others ARGUMENT (omega arith) (λ x. absurd (omega (arith, x))) ∙ first.result operand e)
          (put-other p SERVICE REGIONS (add_of (p 0) (sign_extended (service_number request))) (λ e. absurd (omega (arith, e)))
          ∙ (kept REGIONS (omega arith) (λ e. absurd (omega (arith, e))) (λ e. absurd (omega (arith, e))) ∙ s.counted))

      in_final : Standing program frames addresses pages calls c1 final w1 base back (stage_of frames c) c.active.slots
      in_final =
          standing_store program well frames fit addresses pages calls few c r w base back (stage_of frames c) c.active.slots s (served c.store call chosen)
          final zero_kept base_kept left_kept back_kept newest_kept count_reported middle_kept laid
          (λ j past high. values_kept (17 + j) (omega arith) (omega (arith, high)))

      -- `m` is memory after the lines that write the store's result to slots.
      abbrev m : Contents
      m = after_w answers final w1

      abbrev brought : Words
      brought = after_r answers final w1

      abbrev past : ℕ
      past = destination_of request + length (result_registers (answer_count request))

      module _ (answered_words : (n : ℕ) → IsWord (answered_r (answer c.store call chosen) ready n)) where
        shares_none : (d slot k : ℕ) → destination_of request ≤ d → d < past → value_register (frame_at frames c.active.function) d ≡ Some k → value_register (frame_at frames c.active.function) slot ≡ Some k
            → IsLiveAt program (routine_at program c.active.function) slot (c.active.next + 1) → slot ≡ d
        shares_none d slot k begun below has_d has wanted =
            homes_right.made c.active.next (c.active.next + 1) slot d k (plain.Ask request) at_i (answers_written request d begun below) (eqb_next c.active.next) has_d has wanted

        low_words : (n : ℕ) → n < 6 → IsWord (after_r counts answered w1 n)
        low_words n low = subst IsWord (sym (regions_others request answered w1 n (λ e. absurd (omega (arith, e, low))))) (answered_words n)

        few_answers : answer_count request ≤ 3
        few_answers = omega (arith, answer_few request)

        fits_here : destination_of request + length (result_registers (answer_count request)) ≤ (routine_at program c.active.function).slots
        fits_here = omega (arith, in_range.answer_in_range, length_registers (answer_count request) few_answers)

        stored : AreBrought program well frames fit addresses pages calls few false c1 base back (frame_at frames c.active.function).saves (c.active.next + 1) (destination_of request) past final low_words fits_here shares_none (destination_of request) (result_registers (answer_count request)) final w1 c.active.slots
        stored =
            are_brought program well frames fit addresses pages calls few false c1 base back (frame_at frames c.active.function).saves (c.active.next + 1) (destination_of request) past final low_words fits_here shares_none (destination_of request) (result_registers (answer_count request)) final w1 c.active.slots
            (omega arith) (omega arith) (results_low (answer_count request) few_answers) (λ n below. refl) in_final

        -- A request to the store leaves the registers of all slots unchanged, except those of the request's result slots.
        apart_kept : (a k : ℕ) → value_register (frame_at frames c.active.function) a ≡ Some k → IsLiveAt program (routine_at program c.active.function) a (c.active.next + 1)
            → a < destination_of request ⊎ destination_of request + length (result_registers (answer_count request)) ≤ a → final k ≡ c.active.slots a
        apart_kept a k has wanted outside =
            values_kept k (homes_right.low a k has) (homes_right.high a k has)
            ∙ caches a k has (live_earlier program frames c.active.function homes_right c.active.next (c.active.next + 1) a (plain.Ask request) at_i (eqb_next c.active.next) (answers_apart request a outside) wanted)

        reported_caches : Caches program frames c.active.function (c.active.next + 1) brought (reported (answer c.store call chosen) (destination_of request) c.active.slots)
        reported_caches a k has wanted =
            stored.caches (λ a k has wanted last outside. apart_kept a k has wanted outside) a k has wanted refl
            ∙ ap (λ (x : Words). x a) (reported_is request c.store c.active.slots ready w1 chosen)

        abbrev there : Words
        there = reported (answer c.store call chosen) (destination_of request) c.active.slots

        ends_at : Standing program frames addresses pages calls next brought m base back (stage_of frames c) there
        ends_at =
            let in_slots : Standing program frames addresses pages calls c1 brought m base back (stage_of frames c) there =
            subst (λ (x : Words). Standing program frames addresses pages calls c1 brought m base back (stage_of frames c) x) (reported_is request c.store c.active.slots ready w1 chosen) stored.standing in
            standing_at program well frames fit addresses pages calls few c1 brought m base back (stage_of frames c) there in_slots next refl refl refl refl refl refl s.input

        -- The lines that count open regions, followed by those that write a request's result to slots, do not trap.
        block_safe : AreSafe globals_length (words_per_call * calls) (counts ++ answers) answered w1
        block_safe =
            safe_append globals_length (words_per_call * calls) counts answers answered w1 (regions_safe globals_length (words_per_call * calls) request answered w1)
            (subst (AreSafe globals_length (words_per_call * calls) answers final) (sym (regions_memory request answered w1)) stored.safe)

        block_registers : after_r (counts ++ answers) answered w1 ≡ brought
        block_registers = after_r-append counts answers answered w1 ∙ ap (after_r answers final) (regions_memory request answered w1)

        block_memory : after_w (counts ++ answers) answered w1 ≡ m
        block_memory = after_w-append counts answers answered w1 ∙ ap (after_w answers final) (regions_memory request answered w1)

        line_is : called + 1 + length (counts ++ answers) ≡ instruction_line program frames c.active.function (c.active.next + 1)
        line_is = omega (arith, line_next program frames c.active.function c.active.next (plain.Ask request) at_i, long, more, stored_few)

        reaches : (d : labelled.Configuration) → At program well frames fit code formed addresses pages calls few (called + 1 + length (counts ++ answers)) c.output c.input (after_r (counts ++ answers) answered w1) (after_w (counts ++ answers) answered w1) d
            → Reached program well frames fit code formed addresses pages calls few c (Running d)
        reaches d later =
            reached program well frames fit code formed addresses pages calls few c choice (plain.Ask request) (states.Running next) (Running d) is_allowed at_i does
            (within program well frames fit code formed addresses pages calls few next laid.paged s.deep)
            (inl (record {
              run = d;
              r = brought;
              w = m;
              base = base;
              back = back;
              is = refl;
              now = now_at code formed addresses globals_length (words_per_call * calls) (called + 1 + length (counts ++ answers)) (instruction_line program frames c.active.function (c.active.next + 1)) c.output c.input brought m d line_is
                  (now_is code formed addresses globals_length (words_per_call * calls) (called + 1 + length (counts ++ answers)) c.output c.input (after_r (counts ++ answers) answered w1) (after_w (counts ++ answers) answered w1) brought m d block_registers block_memory later);
              standing = ends_at;
              caches = reported_caches;
            }))

    served_goes : refusal c.store call ≡ None → Goes 1 here hi (Running run)
    served_goes free =
        called_goes 1 (omega arith)
        (λ d later.
        walk_served code formed addresses globals_length (words_per_call * calls) request called called hi c.output c.input _ ready w d call c.store later last_lines.1.0 (omega arith) number call_is s.store
        0 (lines_from code formed addresses globals_length (words_per_call * calls) (called + 1) (counts ++ answers)) free (λ chosen allowed. served_words pages c.store call chosen allowed s.laid) (omega arith)
        (lines_rise code formed addresses globals_length (words_per_call * calls) (counts ++ answers) (suc called) (called + 1) hi (omega arith) (omega (arith, long, more, stored_few)))
        (λ chosen allowed e served_now.
        comes_block code formed addresses globals_length (words_per_call * calls) (After program pages calls c) (counts ++ answers) (called + 1) c.output c.input _ (answered_r (answer c.store call chosen) ready) (record w { store = served c.store call chosen }) e served_now last_lines.1.1
        (block_safe free chosen allowed (λ n. served_now.r_words n)) (λ f after. reaches free chosen allowed (λ n. served_now.r_words n) f after)))

    pub ask_goes : (performed program zeros c (plain.Ask request) ≡ states.Stuck c.output c.input → IsAllowed program (states.Running c) zeros → ⊥) → Goes 1 here hi (Running run)
    ask_goes never = go (refusal c.store call) refl
      where
        stops : (why : services.Refusal) → asks zeros.serving c (destination_of request) call (Some why) ≡ states.Stuck c.output c.input → refusal c.store call ≡ Some why → Goes 1 here hi (Running run)
        stops why stuck refused =
            absurd (never (ap (asks zeros.serving c (destination_of request) call) refused ∙ stuck) (zeros_refused program c call why (ap (call_of c.active.slots) at_i) refused))

        go : (o : Option services.Refusal) → refusal c.store call ≡ o → Goes 1 here hi (Running run)
        go None free = served_goes free
        go (Some services.Full) full = full_goes full
        go (Some services.BadMark) refused = stops services.BadMark refl refused
        go (Some services.BadHandle) refused = stops services.BadHandle refl refused
        go (Some services.BadSize) refused = stops services.BadSize refl refused
        go (Some services.NotABlock) refused = stops services.NotABlock refl refused
