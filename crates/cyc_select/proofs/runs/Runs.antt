-- The labelled machine simulates each step of the plain machine by executing the MIPS lines of the current instruction.
use Rattle.std.proofs.Common.{◌≡◌, ◌≢◌, ℕ, suc, ◌+◌, ◌-◌, ◌*◌, ◌^◌, ◌<◌, ◌≤◌, Bool, true, false, not, List, [], ◌∷◌, ◌++◌, length, Option, Some, None, slice_get, refl, sym, ap, subst, ◌∙◌, arith, inl, inr}
use Rattle.std.specs.Prelude.{if◌then◌else◌}
use Rattle.std.proofs.lemmas.Bool.{cases_lt, eq-eqb, ne_eqb, false≢true}
use Rattle.cyc_words.specs.Ending.{Ending}
use Rattle.std.proofs.lemmas.List.{get_or_past}
use Rattle.cyc_words.specs.Word.{IsWord}
use Rattle.cyc_isa.specs.declared.instr.Instr.{Instr}
use Rattle.cyc_isa.specs.declared.instr.MoveFromOp.{MoveFromOp}
use Rattle.cyc_isa.specs.declared.instr.MoveFromOp.TheVariants.{High, Low}
use Rattle.cyc_isa.specs.declared.instr.MultiplyDivideOp.TheVariants.{Divide, Multiply}
use Rattle.cyc_machine_model.specs.State.{globals_length, words_per_call}
use Rattle.cyc_plain.specs.declared.instruction.Instruction.{Instruction}
use Rattle.cyc_plain.specs.declared.instruction.Instruction.TheVariants as plain
use Rattle.cyc_plain.specs.declared.instruction.Comparison.{Comparison}
use Rattle.cyc_plain.specs.declared.instruction.BinaryOperator.{BinaryOperator}
use Rattle.cyc_plain.specs.declared.instruction.BinaryOperator.TheVariants as binary
use Rattle.cyc_plain.specs.declared.instruction.Operand.{Operand}
use Rattle.cyc_plain.specs.inside.Operators.{unary_result, binary_result, has_no_result}
use Rattle.cyc_plain.specs.inside.Program.{Routine, Program, no_routine, routine_at}
use Rattle.cyc_words.specs.Simulation as simulation
use Rattle.cyc_words.specs.inside.Following.{IsOnTheWay, Matching, IsMatchedStep, IsStepped, Steps}
use Rattle.cyc_plain.specs.inside.State as states
use Rattle.cyc_plain.specs.inside.State.{Words, Configuration}
use Rattle.cyc_plain.specs.inside.Step as steps
use Rattle.cyc_plain.specs.inside.Step.{IsAllowed, call_of, instruction_at, operand_word, performed, executed, gives, finishes, step, is_within, limit_at, Step, callee_of}
use Rattle.cyc_plain.specs.inside.WellFormed.{IsOperand, IsWellFormed, IsInRange, IsTryInRange, is_return, HasWords, IsOfWord, HasWord}
use Rattle.cyc_words.proofs.SeenLemmas.{seen_same}
use Rattle.cyc_words.proofs.Matching.{way_before, way_after}
use Rattle.cyc_words.proofs.Members.{All_at}
use Rattle.cyc_words.proofs.Items.{below_from_slice_get}
use Rattle.cyc_plain.proofs.Placed.{routine_in, goes_after}
use Rattle.cyc_plain.proofs.RunLaws.{lawful, limited-within, limited_either, zeros, zeros_allowed, zeros_at, stuck_within}
use Rattle.cyc_plain.proofs.Steps.{function_known}
use Rattle.cyc_frame.specs.inside.Layout.{AreFrames, frame_at}
use Rattle.cyc_frame.specs.inside.Frame.{Frame}
use Rattle.cyc_select.specs.inside.Labelled.{Labelled, IsFormed, IsReturnPoint, AreAddresses}
use Rattle.cyc_select.specs.inside.Machine as labelled
use Rattle.cyc_select.specs.inside.Machine.{State, Running, Ended, machine}
use Rattle.cyc_select.specs.declared.constants.TheConstants.{HANDLERS}
use Rattle.cyc_select.specs.declared.code.Line.{Line}
use Rattle.cyc_select.specs.declared.code.Line.TheVariants as lines
use Rattle.cyc_select.specs.inside.Slots.{coming, saving_code}
use Rattle.cyc_select.specs.inside.Operands.{reload_count, divide_count, plan_code, plan_count, is_tested, operator_count}
use Rattle.cyc_select.specs.inside.Passing.{spills, spills_count, copies_count}
use Rattle.cyc_select.specs.inside.Hoisting.{is_idle}
use Rattle.cyc_select.specs.inside.Counts.{body_count, after_count, place_count, function_line, count_of, instruction_line}
use Rattle.cyc_select.specs.inside.Selection.{recorded_code, caught_code, opened_code, body, following, place_lines, ordinary, calling_code, divide_code, part_of}
use Rattle.cyc_select.proofs.emission.Counts.{length_spills}
use Rattle.cyc_select.proofs.layout.Lines.{line_next, line_first}
use Rattle.cyc_select.proofs.layout.OwnLines.{after_of, previous_count, body_of, own_of, previous_fits}
use Rattle.cyc_select.specs.inside.Numbers.{is_plain_divisor}
use Rattle.cyc_select.specs.inside.Plans.{binary_plan}
use Rattle.cyc_select.proofs.values.Halves.{divisor_is}
use Rattle.cyc_select.proofs.values.Operations.{product_quotient, product_remainder}
use Rattle.cyc_select.proofs.values.Plans.{multiply_divide_result, if_low}
use Rattle.cyc_select.proofs.relation.Values.{Caches}
use Rattle.cyc_select.proofs.effects.Views.{Contents}
use Rattle.cyc_select.proofs.effects.Sequences.{Stands, stands_front, stands_back, stands_until, Rises, rising_distinct, rising_inside, comes_map}
use Rattle.cyc_select.proofs.effects.Walks.{Quiet, Walk, walk_end, walk_few, walk_to, walk_rest}
use Rattle.cyc_select.proofs.relation.Waiting.{IsNewest, after_line}
use Rattle.cyc_select.proofs.relation.Standing.{stage_of, Standing}
use Rattle.cyc_select.proofs.relation.Matches.{After, At, Ready, Begun, Matches, Reached, Passed, weight, is_straight, HasMore}
use Rattle.cyc_select.proofs.steps.Simple.{move_goes, unary_goes, binary_goes}
use Rattle.cyc_select.proofs.steps.Divisions.{divide_goes}
use Rattle.cyc_select.proofs.steps.Branches.{jump_goes, branch_goes}
use Rattle.cyc_select.proofs.steps.Services.{read_goes, write_goes, uncaught_goes}
use Rattle.cyc_select.proofs.steps.Globals.{address_goes, load_global_goes, count_lexical_goes, store_global_goes}
use Rattle.cyc_select.proofs.steps.Accesses.{move_words_goes, load_goes, store_goes, load_byte_goes, store_byte_goes}
use Rattle.cyc_select.proofs.steps.Requests.{ask_goes}
use Rattle.cyc_select.proofs.steps.Handlers.{catch_goes, leave_goes, try_goes}
use Rattle.cyc_select.proofs.steps.Throws.{throw_goes}
use Rattle.cyc_select.proofs.steps.Idle.{passes}
use Rattle.cyc_select.proofs.steps.Entries.{entered_goes}
use Rattle.cyc_select.proofs.steps.Calls.{length_ordinary, call_last}
use Rattle.cyc_select.proofs.steps.Enters.{enter_goes}
use Rattle.cyc_select.proofs.steps.Passing.{call_goes}
use Rattle.cyc_select.proofs.steps.Trailing.{after_goes}
use Rattle.cyc_select.proofs.steps.Leaving.{return_goes}
use Rattle.cyc_select.proofs.layout.Inside.{body_stands, place_inside}

module _ (program : Program) (well : IsWellFormed program) (words : HasWords program) (frames : List Frame) (fit : AreFrames program frames) (code : Labelled) (formed : IsFormed code) (addresses : ℕ → ℕ) (lie : AreAddresses code addresses)
    (pages calls : ℕ) (few : calls ≤ 4096)
    (stand : (function index : ℕ) (i : Instruction) → instruction_at program (record { function = function; index = index }) ≡ Some i
    → Stands code (instruction_line program frames function index) (place_lines program frames function index (instruction_line program frames function index) i ++ following program frames function i))
    (stand_saving : (function : ℕ) → function < length program.functions → Stands code (function_line program frames function) (ordinary (saving_code (frame_at frames function))))
    (long : (function line : ℕ) (i : Instruction) → length (body program frames function line i) ≡ body_count program frames function i) where
  -- The MIPS lines that follow a call stand at the line at which the call returns.
  following_stands : (function index callee arguments count result : ℕ) → instruction_at program (record { function = function; index = index }) ≡ Some (plain.Call callee arguments count result)
      → Stands code (after_line program frames function index callee arguments count result) (following program frames function (plain.Call callee arguments count result))
  following_stands function index callee arguments count result at =
      let line : ℕ = instruction_line program frames function index in
      let i : Instruction = plain.Call callee arguments count result in
      subst (λ (n : ℕ). Stands code (instruction_line program frames function index + n) (following program frames function (plain.Call callee arguments count result))) (long function line i)
      (stands_back code line (body program frames function line i) (following program frames function i) (stand function index i at))

  -- The MIPS line after a call exists: it is one of the lines executed after this call returns, or a line of the next instruction.
  after_inside : (function index callee arguments count result : ℕ) → instruction_at program (record { function = function; index = index }) ≡ Some (plain.Call callee arguments count result)
      → after_line program frames function index callee arguments count result < length code.lines
  after_inside function index callee arguments count result at =
      let i : Instruction = plain.Call callee arguments count result in
      let known = function_known program (record { function = function; index = index }) i at in
      let further = goes_after program (routine_at program function) index i (routine_in program function well known) at refl in
      omega (arith, line_next program frames function index i at, place_inside program well frames fit code stand long function (index + 1) further)

  returns_to : (function index callee arguments count result : ℕ) → instruction_at program (record { function = function; index = index }) ≡ Some (plain.Call callee arguments count result)
      → IsReturnPoint code (after_line program frames function index callee arguments count result)
  returns_to function index callee arguments count result at =
      let line : ℕ = instruction_line program frames function index in
      let spilled : ℕ = line + spills_count (frame_at frames function) (coming (frame_at frames callee)) arguments 0 count in
      let calling : List Line = calling_code (frame_at frames function) (coming (frame_at frames callee)) spilled (function_line program frames callee) arguments count in
      let before : List Instr = spills (frame_at frames function) (coming (frame_at frames callee)) arguments 0 count in
      let long_spills : length (ordinary before) ≡ spills_count (frame_at frames function) (coming (frame_at frames callee)) arguments 0 count = length_ordinary before ∙ length_spills (frame_at frames function) (coming (frame_at frames callee)) arguments 0 count in
      record {
        inside = after_inside function index callee arguments count result at;
        call = spilled + 4 + copies_count (frame_at frames function) (coming (frame_at frames callee)) arguments 0 count;
        label = function_line program frames callee;
        following = omega arith;
        calls = call_last code (frame_at frames function) (coming (frame_at frames callee)) spilled (function_line program frames callee) arguments count
            (subst (λ (n : ℕ). Stands code (line + n) calling) long_spills
            (stands_back code line (ordinary before) calling
            (stands_front code line (ordinary before ++ calling) (following program frames function (plain.Call callee arguments count result)) (stand function index (plain.Call callee arguments count result) at))));
      }

  in_range_of : (function index : ℕ) (i : Instruction) → instruction_at program (record { function = function; index = index }) ≡ Some i → IsInRange program (routine_at program function) i
  in_range_of function index i at =
      All_at (IsInRange program (routine_at program function)) (routine_at program function).code index i
      (routine_in program function well (function_known program (record { function = function; index = index }) i at)).instructions at

  word_of_it : (function index : ℕ) (i : Instruction) → instruction_at program (record { function = function; index = index }) ≡ Some i → HasWord i
  word_of_it function index i at =
      All_at HasWord (routine_at program function).code index i
      (words.functions function no_routine (function_known program (record { function = function; index = index }) i at)) at

  range_of : (function index first handler : ℕ) → instruction_at program (record { function = function; index = index }) ≡ Some (plain.Try first handler) → IsTryInRange (routine_at program function) first handler
  range_of function index first handler at = in_range_of function index (plain.Try first handler) at

  -- The MIPS lines at which an exception arrives stand 3 lines after the first line of the `Try` that opened its handler.
  caught_stands : (function index first handler : ℕ) → instruction_at program (record { function = function; index = index }) ≡ Some (plain.Try first handler)
      → Stands code (instruction_line program frames function index + 3) (ordinary (caught_code (frame_at frames function) first) ++ lines.Jump (instruction_line program frames function handler) ∷ [])
  caught_stands function index first handler at =
      let line : ℕ = instruction_line program frames function index in
      let jump : Line = lines.Jump (instruction_line program frames function handler) in
      let caught : List Line = ordinary (caught_code (frame_at frames function) first) in
      let opened : List Line = ordinary (opened_code (frame_at frames function) first) in
      let rest : List Line = lines.Call (line + 6 + reload_count (frame_at frames function)) ∷ (caught ++ jump ∷ opened) in
      let whole = stands_front code line (body program frames function line (plain.Try first handler)) [] (stand function index (plain.Try first handler) at) in
      subst (λ (n : ℕ). Stands code n (ordinary (caught_code (frame_at frames function) first) ++ lines.Jump (instruction_line program frames function handler) ∷ []))
      (let e : line + 2 + 1 ≡ line + 3 = omega arith in e)
      (stands_until code (line + 2 + 1) caught jump opened (stands_back code line (ordinary (recorded_code (frame_at frames function) first)) rest whole).1)

  lands_at : (function index first handler : ℕ) → instruction_at program (record { function = function; index = index }) ≡ Some (plain.Try first handler)
      → IsReturnPoint code (instruction_line program frames function index + 3)
  lands_at function index first handler at =
      let line : ℕ = instruction_line program frames function index in
      let caught : List Line = ordinary (caught_code (frame_at frames function) first) in
      let opened : List Line = ordinary (opened_code (frame_at frames function) first) in
      let rest : List Line = lines.Call (line + 6 + reload_count (frame_at frames function)) ∷ (caught ++ lines.Jump (instruction_line program frames function handler) ∷ opened) in
      let whole = stands_front code line (body program frames function line (plain.Try first handler)) [] (stand function index (plain.Try first handler) at) in
      record {
        inside = below_from_slice_get code.lines _ _ (caught_stands function index first handler at).0;
        call = line + 2;
        label = line + 6 + reload_count (frame_at frames function);
        following = omega arith;
        calls = (stands_back code line (ordinary (recorded_code (frame_at frames function) first)) rest whole).0;
      }

  few_results : (function : ℕ) → (routine_at program function).results ≤ 3
  few_results function = elim (cases_lt function (length program.functions)) [
    | inl below ↦ (routine_in program function well below).results
    | inr past ↦ subst (λ (r : Routine). r.results ≤ 3) (sym (get_or_past program.functions function no_routine past)) (let e : 0 ≤ 3 = omega arith in e)
  ]

  -- ---- one instruction

  abbrev Never : Configuration → Type 0
  Never c = (next : states.State) → Step program pages calls (states.Running c) next → states.status_of next ≡ simulation.Failed → ⊥

  stuck_not : (c : Configuration) → Never c → IsAllowed program (states.Running c) zeros → step program zeros (states.Running c) ≡ states.Stuck c.output c.input → ⊥
  stuck_not c never allowed is =
      never (states.Stuck c.output c.input)
      (zeros, allowed, sym (limited-within pages (limit_at program (states.Running c) calls) (states.Running c) (step program zeros (states.Running c)) (ap (is_within pages (limit_at program (states.Running c) calls)) is ∙ stuck_within pages (limit_at program (states.Running c) calls) c.output c.input) ∙ is))
      refl

  divides : (c : Configuration) → Never c → (operator : BinaryOperator) (destination : ℕ) (left right : Operand) → instruction_at program (states.place_of (states.Running c)) ≡ Some (plain.Binary operator destination left right)
      → ((b : ℕ) → b ≡ 0 → has_no_result operator b ≡ true) → operand_word c.active.slots right ≢ 0
  divides c never operator destination left right at none is_zero =
      stuck_not c never (zeros_at program c (plain.Binary operator destination left right) at refl)
      (ap (executed program zeros c) at
      ∙ ap (λ (b : Bool). if b then states.Stuck c.output c.input else gives c destination (binary_result operator (operand_word c.active.slots left) (operand_word c.active.slots right))) (none (operand_word c.active.slots right) is_zero))

  module _ (c : Configuration) (never : Never c) (run : labelled.Configuration) (r : Words) (w : Contents) (base back : ℕ)
      (now : At program well frames fit code formed addresses pages calls few (instruction_line program frames c.active.function c.active.next) c.output c.input r w run)
      (s : Standing program frames addresses pages calls c r w base back (stage_of frames c) c.active.slots)
      (caches : Caches program frames c.active.function c.active.next r c.active.slots) where
    abbrev here : ℕ
    here = instruction_line program frames c.active.function c.active.next

    abbrev Goes : ℕ → Type 0
    Goes count = Walk code formed addresses globals_length (words_per_call * calls) 1 here (here + count) c.output (After program pages calls c) (Reached program well frames fit code formed addresses pages calls few c) (Running run)

    abbrev IsAt : Instruction → Type 0
    IsAt i = instruction_at program (states.place_of (states.Running c)) ≡ Some i

    abbrev slots : ℕ
    slots = (routine_at program c.active.function).slots

    abbrev IsThere : Operand → Type 0
    IsThere o = IsOperand (routine_at program c.active.function) o × IsOfWord o

    abbrev StandsHere : Instruction → Type 0
    StandsHere i = Stands code here (body program frames c.active.function here i)

    -- The labelled machine (MIPS lines) simulates a division whose result is defined.
    quotient_goes : (operator : BinaryOperator) (which : MoveFromOp) (destination : ℕ) (left right : Operand) → IsAt (plain.Binary operator destination left right) → destination < slots → IsThere left → IsThere right
        → ((b : ℕ) → b ≡ 0 → has_no_result operator b ≡ true) → ((b : ℕ) → b ≢ 0 → has_no_result operator b ≡ false)
        → ((a b : ℕ) → binary_result operator a b ≡ multiply_divide_result Divide which a b) → ((a : ℕ) → IsWord a → multiply_divide_result Multiply which (if_low which a 0) (if_low which (2 ^ 32 - 1) 0) ≡ multiply_divide_result Divide which a (2 ^ 32 - 1))
        → count_of program frames c.active.function c.active.next (plain.Binary operator destination left right) ≡ divide_count (frame_at frames c.active.function) destination left right
        → Stands code here (divide_code (frame_at frames c.active.function) here which destination left right) → Goes (divide_count (frame_at frames c.active.function) destination left right)
    quotient_goes operator which destination left right at below l t none some result negated counted stands =
        let nonzero = divides c never operator destination left right at none in
        divide_goes program well frames fit code formed addresses pages calls few c run r w base back now s caches operator which destination left right at below l t
        (ap (λ (x : Bool). if x then states.Stuck c.output c.input else gives c destination (binary_result operator (operand_word c.active.slots left) (operand_word c.active.slots right))) (some (operand_word c.active.slots right) nonzero)
        ∙ ap (λ (x : ℕ). gives c destination x) (result (operand_word c.active.slots left) (operand_word c.active.slots right)))
        nonzero counted negated stands

    tested_goes : (operator : BinaryOperator) (destination : ℕ) (left right : Operand) → IsAt (plain.Binary operator destination left right) → destination < slots → IsThere left → IsThere right → is_tested operator right ≡ true
        → count_of program frames c.active.function c.active.next (plain.Binary operator destination left right) ≡ divide_count (frame_at frames c.active.function) destination left right
        → Stands code here (divide_code (frame_at frames c.active.function) here (part_of operator) destination left right) → Goes (divide_count (frame_at frames c.active.function) destination left right)
    tested_goes binary.Divide d l t at a b e tested counted stands =
        quotient_goes binary.Divide Low d l t at a b e (λ n is_zero. eq-eqb n 0 is_zero) (λ n other. ne_eqb n 0 other) (λ x y. refl) product_quotient counted stands
    tested_goes binary.Remainder d l t at a b e tested counted stands =
        quotient_goes binary.Remainder High d l t at a b e (λ n is_zero. eq-eqb n 0 is_zero) (λ n other. ne_eqb n 0 other) (λ x y. refl) (λ x fits. product_remainder x) counted stands
    tested_goes operator d l t at a b e tested counted stands = absurd (let e : false ≡ true = tested in cc)

    not_true : (b : Bool) → not b ≡ false → b ≡ true
    not_true true is = refl
    not_true false is = absurd (let e : true ≡ false = is in cc)

    -- A division by a divisor that needs no test has a result.
    has_result : (operator : BinaryOperator) (right : Operand) → is_tested operator right ≡ false → has_no_result operator (operand_word c.active.slots right) ≡ false
    has_result binary.Divide right fine = ne_eqb (operand_word c.active.slots right) 0 (divisor_is c.active.slots right (not_true (is_plain_divisor right) fine)).0
    has_result binary.Remainder right fine = ne_eqb (operand_word c.active.slots right) 0 (divisor_is c.active.slots right (not_true (is_plain_divisor right) fine)).0
    has_result operator right fine = refl

    counted : (i : Instruction) → is_idle (frame_at frames c.active.function) c.active.next i ≡ false
        → count_of program frames c.active.function c.active.next i ≡ body_count program frames c.active.function i + after_count program frames c.active.function i
    counted i busy = ap (λ (b : Bool). (if b then 0 else body_count program frames c.active.function i) + after_count program frames c.active.function i) busy

    operator_goes : (operator : BinaryOperator) (destination : ℕ) (left right : Operand) → IsAt (plain.Binary operator destination left right) → is_idle (frame_at frames c.active.function) c.active.next (plain.Binary operator destination left right) ≡ false → destination < slots → IsThere left → IsThere right
        → StandsHere (plain.Binary operator destination left right) → Goes (operator_count (frame_at frames c.active.function) operator destination left right)
    operator_goes operator d l t at busy a b e stands = go (is_tested operator t) refl stands (omega (arith, counted (plain.Binary operator d l t) busy))
      where
        go : (tested : Bool) → is_tested operator t ≡ tested
            → Stands code here (if tested then divide_code (frame_at frames c.active.function) here (part_of operator) d l t else ordinary (plan_code (frame_at frames c.active.function) (binary_plan operator l t) d))
            → count_of program frames c.active.function c.active.next (plain.Binary operator d l t) ≡ (if is_tested operator t then divide_count (frame_at frames c.active.function) d l t else plan_count (frame_at frames c.active.function) (binary_plan operator l t) d)
            → Goes (if tested then divide_count (frame_at frames c.active.function) d l t else plan_count (frame_at frames c.active.function) (binary_plan operator l t) d)
        go true tested stands counted =
            tested_goes operator d l t at a b e tested (counted ∙ ap (λ (x : Bool). if x then divide_count (frame_at frames c.active.function) d l t else plan_count (frame_at frames c.active.function) (binary_plan operator l t) d) tested) stands
        go false tested stands counted =
            binary_goes program well frames fit code formed addresses pages calls few c run r w base back now s caches operator d l t at a b e tested
            (ap (λ (x : Bool). if x then states.Stuck c.output c.input else gives c d (binary_result operator (operand_word c.active.slots l) (operand_word c.active.slots t))) (has_result operator t tested))
            (counted ∙ ap (λ (x : Bool). if x then divide_count (frame_at frames c.active.function) d l t else plan_count (frame_at frames c.active.function) (binary_plan operator l t) d) tested) stands

    stops_not : (i : Instruction) → IsAt i → IsAllowed program (states.Running c) zeros → performed program zeros c i ≡ states.Stuck c.output c.input → ⊥
    stops_not i at allowed stops = stuck_not c never allowed (ap (executed program zeros c) at ∙ stops)

    -- At the instruction `Return`, the call has no open exception handler: a function that opens handlers returns by the instruction
    -- `Finish` instead.
    none_open : {value : ℕ} → IsAt (plain.Return value) → c.active.handlers ≡ []
    none_open {value} at = go c.active.handlers refl s.newest
      where
        go : (handlers : List states.Handler) → c.active.handlers ≡ handlers → IsNewest program frames addresses (r HANDLERS) base c.active.function handlers c.frames → c.active.handlers ≡ []
        go [] is records = is
        go (states.Caught ∷ handlers) is records = absurd records
        go (states.Open index first contents ∷ handlers) is (one, others) =
            let none = (range_of c.active.function index first one.handler one.opened).no_return in
            absurd (let e : true ≡ false = All_at (λ (i : Instruction). is_return i ≡ false) (routine_at program c.active.function).code c.active.next (plain.Return value) none at in cc)

    finish_goes : (value : ℕ) → IsAt (plain.Finish value) → IsInRange program (routine_at program c.active.function) (plain.Finish value) → StandsHere (plain.Finish value) → (handlers : List states.Handler) → c.active.handlers ≡ handlers
        → Goes (body_count program frames c.active.function (plain.Finish value))
    finish_goes value at in_range stands [] none =
        return_goes program well frames fit code formed addresses pages calls few lie c run r w base back now s caches (plain.Finish value) value at refl (λ slot is. is)
        (ap (finishes c value (routine_at program c.active.function).results) none) none in_range returns_to stands
    finish_goes value at in_range stands (h ∷ handlers) some =
        absurd (stops_not (plain.Finish value) at (zeros_at program c (plain.Finish value) at refl) (ap (finishes c value (routine_at program c.active.function).results) some))

    -- The labelled machine (MIPS lines) simulates a branch by a walk (stretch of a run) through all lines of the branch.
    branch_walks : (comparison : Comparison) (left right : Operand) (target : ℕ) → IsAt (plain.Branch comparison left right target) → is_idle (frame_at frames c.active.function) c.active.next (plain.Branch comparison left right target) ≡ false
        → IsInRange program (routine_at program c.active.function) (plain.Branch comparison left right target) → HasWord (plain.Branch comparison left right target) → StandsHere (plain.Branch comparison left right target)
        → Walk code formed addresses globals_length (words_per_call * calls) (body_count program frames c.active.function (plain.Branch comparison left right target)) here (here + body_count program frames c.active.function (plain.Branch comparison left right target)) c.output (After program pages calls c) (Reached program well frames fit code formed addresses pages calls few c) (Running run)
    branch_walks comparison left right target at busy (a, b, below) (fits, also) stands =
        branch_goes program well frames fit code formed addresses pages calls few c run r w base back now s caches comparison left right target at (a, fits) (b, also) (omega (arith, counted (plain.Branch comparison left right target) busy))
        (λ j there is_busy. stands_front code (instruction_line program frames c.active.function target) (body program frames c.active.function (instruction_line program frames c.active.function target) j) (following program frames c.active.function j) (body_stands program well frames fit code stand long c.active.function target j there is_busy)) stands

    instruction_goes : (i : Instruction) → IsAt i → is_idle (frame_at frames c.active.function) c.active.next i ≡ false → IsInRange program (routine_at program c.active.function) i → HasWord i → StandsHere i → Goes (body_count program frames c.active.function i)
    instruction_goes (plain.Move destination source) at busy (a, b) fits stands = move_goes program well frames fit code formed addresses pages calls few c run r w base back now s caches destination source at a (b, fits) (omega (arith, counted (plain.Move destination source) busy)) stands
    instruction_goes (plain.Unary operator destination operand) at busy (a, b) fits stands = unary_goes program well frames fit code formed addresses pages calls few c run r w base back now s caches operator destination operand at a (b, fits) (omega (arith, counted (plain.Unary operator destination operand) busy)) stands
    instruction_goes (plain.Binary operator destination left right) at busy (a, b, e) (fits, also) stands = operator_goes operator destination left right at busy a (b, fits) (e, also) stands
    instruction_goes (plain.Jump target) at busy below fits stands = jump_goes program well frames fit code formed addresses pages calls few c run r w base back now s caches target at stands
    instruction_goes (plain.Branch comparison left right target) at busy in_range fits stands =
        walk_few code formed addresses globals_length (words_per_call * calls) 1 (body_count program frames c.active.function (plain.Branch comparison left right target)) here (here + body_count program frames c.active.function (plain.Branch comparison left right target)) c.output _ (Running run) (omega arith)
        (branch_walks comparison left right target at busy in_range fits stands)
    instruction_goes (plain.Call callee arguments count result) at busy in_range fits stands =
        call_goes program well frames fit code formed addresses pages calls few lie c run r w base back now s caches callee arguments count result at in_range (returns_to c.active.function c.active.next callee arguments count result at).inside stands
    instruction_goes (plain.Return value) at busy in_range fits stands =
        return_goes program well frames fit code formed addresses pages calls few lie c run r w base back now s caches (plain.Return value) value at refl (λ slot is. is) refl (none_open at) in_range returns_to stands
    instruction_goes (plain.ReadByte destination) at busy below fits stands = read_goes program well frames fit code formed addresses pages calls few c run r w base back now s caches destination at below stands
    instruction_goes (plain.WriteByte source) at busy below fits stands = write_goes program well frames fit code formed addresses pages calls few c run r w base back now s caches source at (below, fits) stands
    instruction_goes (plain.AddressOf destination slot count) at busy (a, some, named) fits stands =
        address_goes program well frames fit code formed addresses pages calls few c run r w base back now s caches destination slot count at a (omega (arith, some, named)) stands
    instruction_goes (plain.LoadGlobal destination global) at busy (a, b) fits stands = load_global_goes program well frames fit code formed addresses pages calls few c run r w base back now s caches destination global at a b stands
    instruction_goes (plain.StoreGlobal global source) at busy (a, b) fits stands = store_global_goes program well frames fit code formed addresses pages calls few c run r w base back now s caches global source at a (b, fits) stands
    instruction_goes (plain.MoveWords destination source count) at busy in_range fits stands = move_words_goes program well frames fit code formed addresses pages calls few c run r w base back now s caches destination source count at in_range (omega (arith, counted (plain.MoveWords destination source count) busy)) stands
    instruction_goes (plain.Load destination address offset) at busy (a, b) (fits, near) stands =
        load_goes program well frames fit code formed addresses pages calls few c run r w base back now s caches destination address offset at a (b, fits) near (stops_not (plain.Load destination address offset) at (zeros_at program c (plain.Load destination address offset) at refl)) stands
    instruction_goes (plain.LoadByte destination address offset) at busy (a, b) (fits, near) stands =
        load_byte_goes program well frames fit code formed addresses pages calls few c run r w base back now s caches destination address offset at a (b, fits) near (stops_not (plain.LoadByte destination address offset) at (zeros_at program c (plain.LoadByte destination address offset) at refl)) stands
    instruction_goes (plain.Store address offset source) at busy (a, b) (fits, near, also) stands =
        store_goes program well frames fit code formed addresses pages calls few c run r w base back now s caches address offset source at (a, fits) near (b, also) (stops_not (plain.Store address offset source) at (zeros_at program c (plain.Store address offset source) at refl)) stands
    instruction_goes (plain.StoreByte address offset source) at busy (a, b) (fits, near, also) stands =
        store_byte_goes program well frames fit code formed addresses pages calls few c run r w base back now s caches address offset source at (a, fits) near (b, also) (stops_not (plain.StoreByte address offset source) at (zeros_at program c (plain.StoreByte address offset source) at refl)) stands
    instruction_goes (plain.Ask request) at busy in_range fits stands =
        ask_goes program well frames fit code formed addresses pages calls few c run r w base back now s caches request at in_range fits stands
        (λ stops allowed. stops_not (plain.Ask request) at allowed stops)
    instruction_goes (plain.CountLexical destination) at busy below fits stands = count_lexical_goes program well frames fit code formed addresses pages calls few c run r w base back now s caches destination at below stands
    instruction_goes (plain.Try first handler) at busy in_range fits stands = try_goes program well frames fit code formed addresses pages calls few lie c range_of lands_at run r w base back now s caches first handler at in_range stands
    instruction_goes (plain.Leave first) at busy in_range fits stands =
        leave_goes program well frames fit code formed addresses pages calls few lie c range_of lands_at run r w base back now s caches first at in_range (stops_not (plain.Leave first) at (zeros_at program c (plain.Leave first) at refl)) stands
    instruction_goes (plain.Throw tag value) at busy (a, b) (fits, also) stands =
        throw_goes program well frames fit code formed addresses pages calls few lie c range_of lands_at run r w base back now s caches tag value at (a, fits) (b, also) (stops_not (plain.Throw tag value) at (zeros_at program c (plain.Throw tag value) at refl)) stands
    instruction_goes (plain.Finish value) at busy in_range fits stands = finish_goes value at in_range stands c.active.handlers refl
    instruction_goes (plain.Uncaught tag value) at busy below (tag_fits, value_fits) stands = uncaught_goes program well frames fit code formed addresses pages calls few c run r w base back now s caches tag value at (below, value_fits) tag_fits stands
    instruction_goes (plain.Enter callee) at busy in_range fits stands =
        enter_goes program well frames fit code formed addresses pages calls few c run r w base back now s caches callee at in_range stands (sym (line_next program frames c.active.function c.active.next (plain.Enter callee) at))

  -- ---- a step from a matching state

  abbrev above : simulation.Machine
  above = steps.machine program pages calls

  abbrev below_machine : simulation.Machine
  below_machine = machine code addresses

  now_seen : (c : Configuration) (line : ℕ) (r : Words) (w : Contents) (run : labelled.Configuration) (t : State) → t ≡ Running run
      → At program well frames fit code formed addresses pages calls few line c.output c.input r w run → labelled.seen_of t ≡ states.seen_of (states.Running c)
  now_seen c line r w run t is now = ap labelled.seen_of is ∙ seen_same run.output c.output run.input c.input now.output now.input

  pub seen_alike : (s : states.State) (t : State) → Matches program well frames fit code formed addresses pages calls few s t → labelled.seen_of t ≡ states.seen_of s
  seen_alike (states.Running c) t (inl ready) = now_seen c _ ready.r ready.w ready.run t ready.is ready.now
  seen_alike (states.Running c) t (inr (inl back)) = now_seen c _ back.r back.w back.run t back.is back.now
  seen_alike (states.Running c) t (inr (inr (inl landed))) = now_seen c _ landed.r landed.w landed.run t landed.is landed.now
  seen_alike (states.Running c) t (inr (inr (inr (inl entered)))) = now_seen c _ entered.r entered.w entered.run t entered.is entered.now
  seen_alike (states.Running c) t (inr (inr (inr (inr begun)))) = ap labelled.seen_of begun.is ∙ seen_same begun.run.output c.output begun.run.input c.input begun.output begun.input
  seen_alike (states.Ended ending out input) t is = ap labelled.seen_of is
  seen_alike (states.Stuck out input) t is = absurd is

  pub endings_same : (s : states.State) (t : State) (ending : Ending) → Matches program well frames fit code formed addresses pages calls few s t → states.status_of s ≡ simulation.Ended ending → labelled.status_of t ≡ simulation.Ended ending
  endings_same (states.Running c) t ending matches ended = absurd (let e : simulation.Running ≡ simulation.Ended ending = ended in cc)
  endings_same (states.Ended other out input) t ending is ended = ap labelled.status_of is ∙ ended
  endings_same (states.Stuck out input) t ending is ended = absurd is

  abbrev pub matching : Matching above below_machine
  matching = record {
    Matches = Matches program well frames fit code formed addresses pages calls few;
    weight = weight program well frames fit code formed addresses pages calls few;
    own = own_of program frames;
    alike = seen_alike;
    endings = endings_same;
  }

  -- Returns the number of the line after an instruction's own lines.
  abbrev end_of : Configuration → Instruction → ℕ
  end_of c i = instruction_line program frames c.active.function c.active.next + place_count program frames c.active.function c.active.next i

  -- Returns the least number of MIPS lines executed for an instruction: 0 if the instruction needs no machine code, otherwise 1.
  abbrev least_of : (idle : Bool) → ℕ
  least_of true = 0
  least_of false = 1

  abbrev Comes_to : (idle : Bool) → Configuration → State → Type 0
  Comes_to true c t = Passed program well frames fit code formed addresses pages calls few c t
  Comes_to false c t = Reached program well frames fit code formed addresses pages calls few c t

  made : (idle : Bool) (c : Configuration) (places : List ℕ) (u : State) → least_of idle ≤ length places → Comes_to idle c u → IsMatchedStep above below_machine matching (states.Running c) places u
  made true c places u enough (next, goes, matches, lighter) = record { next = next; step = goes; matches = matches; lighter = λ none. lighter }
  made false c places u enough (next, goes, matches) = record { next = next; step = goes; matches = matches; lighter = λ none. absurd (omega (arith, none, enough)) }

  -- In each state of a walk (stretch of a run), the effect of the plain program's step is visible, or output and input are still unchanged.
  on_the_way : (c : Configuration) (run : labelled.Configuration) (u : State) → run.input ≡ c.input → Quiet code formed addresses globals_length (words_per_call * calls) c.output run.input (After program pages calls c) u
      → IsOnTheWay above below_machine (states.Running c) u
  on_the_way c run u unread (inl (running, output, left)) =
      way_before above below_machine matching (states.Running c) u running (seen_same (labelled.output_of u) c.output (labelled.input_of u) c.input output (left ∙ unread))
  on_the_way c run u unread (inr (running, next, made, seen)) =
      way_after above below_machine matching (states.Running c) next u made ((lawful program pages calls).grows (states.Running c) next made) running seen

  -- A walk (stretch of a run) through an instruction's own MIPS lines simulates a step of the plain machine.
  stepped : (idle : Bool) (c : Configuration) (t : State) (run : labelled.Configuration) (lo : ℕ) (i : Instruction) → run.input ≡ c.input → instruction_at program (states.place_of (states.Running c)) ≡ Some i
      → instruction_line program frames c.active.function c.active.next - previous_count program frames c.active.function (routine_at program c.active.function).code c.active.next ≤ lo → t ≡ Running run
      → Walk code formed addresses globals_length (words_per_call * calls) (least_of idle) lo (end_of c i) c.output (After program pages calls c) (Comes_to idle c) (Running run)
      → IsStepped above below_machine matching (states.Running c) t
  stepped idle c t run lo i unread at from is walk =
      let function : ℕ = c.active.function in
      let index : ℕ = c.active.next in
      let count : ℕ = place_count program frames c.active.function c.active.next i in
      let previous : ℕ = previous_count program frames c.active.function (routine_at program c.active.function).code c.active.next in
      let here : ℕ = instruction_line program frames c.active.function c.active.next in
      let fits = previous_fits program frames c.active.function c.active.next in
      let body_is : body_of program frames c.active.function c.active.next (slice_get (routine_at program c.active.function).code c.active.next) ≡ count = ap (body_of program frames c.active.function c.active.next) at in
      let top : instruction_line program frames c.active.function c.active.next + count
      ≡ instruction_line program frames c.active.function c.active.next - previous_count program frames c.active.function (routine_at program c.active.function).code c.active.next + (previous_count program frames c.active.function (routine_at program c.active.function).code c.active.next + body_of program frames c.active.function c.active.next (slice_get (routine_at program c.active.function).code c.active.next)) = omega (arith, fits, body_is) in
      subst (IsStepped above below_machine matching (states.Running c)) (sym is)
      (record {
        places = walk.places;
        distinct = rising_distinct lo (instruction_line program frames c.active.function c.active.next + count) walk.places walk.rises;
        inside = rising_inside _ _ lo walk.places from (subst (λ (n : ℕ). Rises lo n walk.places) top walk.rises);
        comes = comes_map below_machine (Quiet code formed addresses globals_length (words_per_call * calls) c.output run.input (After program pages calls c)) (Comes_to idle c)
            (IsOnTheWay above below_machine (states.Running c)) (IsMatchedStep above below_machine matching (states.Running c) walk.places) walk.places (Running run)
            (λ u quiet. on_the_way c run u unread quiet)
            (λ u comes. made idle c walk.places u walk.enough comes)
            walk.comes;
      })

  -- The labelled machine (MIPS lines) simulates a step from the first line of the current plain instruction, or from the next line if
  -- the instruction has no line.
  ready_goes : (idle : Bool) (c : Configuration) (t : State) → Never c → (ready : Ready program well frames fit code formed addresses pages calls few c t) (i : Instruction) → instruction_at program (states.place_of (states.Running c)) ≡ Some i
      → is_idle (frame_at frames c.active.function) c.active.next i ≡ idle
      → Walk code formed addresses globals_length (words_per_call * calls) (least_of idle) (instruction_line program frames c.active.function c.active.next) (end_of c i) c.output (After program pages calls c) (Comes_to idle c) (Running ready.run)
  ready_goes true c t never ready i at idle =
      walk_end code formed addresses globals_length (words_per_call * calls) (instruction_line program frames c.active.function c.active.next) (end_of c i) c.output (Comes_to true c) (Running ready.run) (omega arith)
      (subst (Comes_to true c) ready.is (passes program well frames fit code formed addresses pages calls few c t ready i at idle))
  ready_goes false c t never ready i at busy =
      let line : ℕ = instruction_line program frames c.active.function c.active.next in
      subst (λ (b : Bool). Walk code formed addresses globals_length (words_per_call * calls) 1 line (line + (if b then 0 else body_count program frames c.active.function i)) c.output (After program pages calls c) (Comes_to false c) (Running ready.run)) (sym busy)
      (instruction_goes c never ready.run ready.r ready.w ready.base ready.back ready.now ready.standing ready.caches i at busy
      (in_range_of c.active.function c.active.next i at) (word_of_it c.active.function c.active.next i at)
      (stands_front code line (body program frames c.active.function line i) (following program frames c.active.function i) (body_stands program well frames fit code stand long c.active.function c.active.next i at busy)))

  -- The MIPS lines of an instruction begin no later than those that follow the previous call.
  before_it : (function index callee arguments count result next : ℕ) → next ≡ index + 1 → instruction_at program (record { function = function; index = index }) ≡ Some (plain.Call callee arguments count result)
      → instruction_line program frames function next - previous_count program frames function (routine_at program function).code next ≤ after_line program frames function index callee arguments count result
  before_it function index callee arguments count result next is at =
      let one : next ≡ suc index = omega (arith, is) in
      let e = line_next program frames function index (plain.Call callee arguments count result) at in
      let previous : previous_count program frames function (routine_at program function).code next ≡ (routine_at program callee).results + reload_count (frame_at frames function) = ap (previous_count program frames function (routine_at program function).code) one ∙ ap (after_of program frames function) at in
      omega (arith, previous, e, ap (instruction_line program frames function) is)

  -- The MIPS lines of a function's first instruction begin no later than the lines that save registers.
  entry_before : (function next : ℕ) → next ≡ 0
      → instruction_line program frames function next - previous_count program frames function (routine_at program function).code next ≤ function_line program frames function
  entry_before function next is =
      omega (
        arith,
        ap (λ (n : ℕ). instruction_line program frames function n - previous_count program frames function (routine_at program function).code n) is,
        line_first program frames function,
      )

  abbrev IsLighter : Configuration → states.State → Type 0
  IsLighter c u = weight program well frames fit code formed addresses pages calls few u < length (routine_at program c.active.function).code - c.active.next

  -- A step of a straight-line instruction decreases the number of instructions still ahead.
  straight_lighter : (c : Configuration) (i : Instruction) → instruction_at program (states.place_of (states.Running c)) ≡ Some i → is_straight i ≡ true → (next : states.State) → Step program pages calls (states.Running c) next
      → weight program well frames fit code formed addresses pages calls few next < weight program well frames fit code formed addresses pages calls few (states.Running c)
  straight_lighter c i at straight next (choice, allowed, is) =
      subst (IsLighter c) (sym is)
      (limited_either (IsLighter c) pages (limit_at program (states.Running c) calls) (states.Running c) (step program choice (states.Running c)) (λ within. subst (IsLighter c) (sym (ap (executed program choice c) at)) (performed_lighter i straight)) some)
    where
      some : 0 < length (routine_at program c.active.function).code - c.active.next
      some = omega (arith, below_from_slice_get (routine_at program c.active.function).code c.active.next i at)

      given_lighter : (destination word : ℕ) → IsLighter c (gives c destination word)
      given_lighter destination word = omega (arith, some)

      performed_lighter : (j : Instruction) → is_straight j ≡ true → IsLighter c (performed program choice c j)
      performed_lighter (plain.Move destination source) is_one = given_lighter destination (operand_word c.active.slots source)
      performed_lighter (plain.Unary operator destination operand) is_one = given_lighter destination (unary_result operator (operand_word c.active.slots operand))
      performed_lighter (plain.Binary operator destination left right) is_one = go (has_no_result operator (operand_word c.active.slots right))
        where
          go : (b : Bool) → IsLighter c (if b then states.Stuck c.output c.input else gives c destination (binary_result operator (operand_word c.active.slots left) (operand_word c.active.slots right)))
          go true = some
          go false = given_lighter destination (binary_result operator (operand_word c.active.slots left) (operand_word c.active.slots right))
      performed_lighter (plain.ReadByte destination) is_one = omega (arith, some)
      performed_lighter (plain.WriteByte source) is_one = omega (arith, some)
      performed_lighter (plain.StoreGlobal global source) is_one = omega (arith, some)
      performed_lighter j is_one = absurd (false≢true is_one)

  -- The labelled machine (MIPS lines) simulates a step of an instruction whose first line was already executed before the branch to it.
  begun_goes : (c : Configuration) (t : State) → Begun program well frames fit code formed addresses pages calls few c t → Never c → IsStepped above below_machine matching (states.Running c) t
  begun_goes c t begun never = go begun.i begun.at begun.busy begun.more
    where
      same : begun.before ≡ begun.ready.run
      same = (let e : Running begun.before ≡ Running begun.ready.run = begun.ready.is in cc)

      before_line : begun.before.line ≡ instruction_line program frames c.active.function c.active.next
      before_line = ap (λ (d : labelled.Configuration). d.line) same ∙ begun.ready.now.at_line

      unread : begun.run.input ≡ begun.before.input
      unread = begun.input ∙ sym (ap (λ (d : labelled.Configuration). d.input) same ∙ begun.ready.now.input)

      -- A walk (stretch of a run) through all lines of an instruction, without its first step, is a walk through the remaining lines.
      rest : (n : ℕ) (i : Instruction) → Walk code formed addresses globals_length (words_per_call * calls) (suc n) (instruction_line program frames c.active.function c.active.next) (end_of c i) c.output (After program pages calls c) (Comes_to false c) (Running begun.ready.run)
          → Walk code formed addresses globals_length (words_per_call * calls) n (suc begun.before.line) (end_of c i) c.output (After program pages calls c) (Comes_to false c) (Running begun.run)
      rest n i whole =
          walk_rest code formed addresses globals_length (words_per_call * calls) n (instruction_line program frames c.active.function c.active.next) (end_of c i) c.output (Comes_to false c) begun.before begun.run unread
          (subst (λ (d : labelled.Configuration). Walk code formed addresses globals_length (words_per_call * calls) (suc n) (instruction_line program frames c.active.function c.active.next) (end_of c i) c.output (After program pages calls c) (Comes_to false c) (Running d)) (sym same) whole)
          begun.goes

      -- If a straight-line instruction has no line after its first, its step decreases the number of instructions still ahead.
      straight : (i : Instruction) → instruction_at program (states.place_of (states.Running c)) ≡ Some i → is_idle (frame_at frames c.active.function) c.active.next i ≡ false → is_straight i ≡ true → IsStepped above below_machine matching (states.Running c) t
      straight i at busy is_one =
          stepped true c t begun.run (suc begun.before.line) i begun.input at (omega (arith, before_line)) begun.is
          (walk_to code formed addresses globals_length (words_per_call * calls) 0 (suc begun.before.line) (end_of c i) c.output (Comes_to false c) (Comes_to true c) (Running begun.run)
          (λ u reached. (reached.0, reached.1, reached.2, straight_lighter c i at is_one reached.0 reached.1))
          (rest 0 i (ready_goes false c (Running begun.before) never begun.ready i at busy)))

      go : (i : Instruction) → instruction_at program (states.place_of (states.Running c)) ≡ Some i → is_idle (frame_at frames c.active.function) c.active.next i ≡ false → HasMore (frame_at frames c.active.function) i
          → IsStepped above below_machine matching (states.Running c) t
      go (plain.Branch comparison left right target) at busy some =
          let ready = begun.ready in
          let i : Instruction = plain.Branch comparison left right target in
          let line : ℕ = instruction_line program frames c.active.function c.active.next in
          let stands = stands_front code line (body program frames c.active.function line i) (following program frames c.active.function i) (body_stands program well frames fit code stand long c.active.function c.active.next i at busy) in
          let all = branch_walks c never ready.run ready.r ready.w ready.base ready.back ready.now ready.standing ready.caches comparison left right target at busy (in_range_of c.active.function c.active.next i at) (word_of_it c.active.function c.active.next i at) stands in
          let whole = subst (λ (b : Bool). Walk code formed addresses globals_length (words_per_call * calls) 2 line (line + (if b then 0 else body_count program frames c.active.function i)) c.output (After program pages calls c) (Comes_to false c) (Running ready.run)) (sym busy)
          (walk_few code formed addresses globals_length (words_per_call * calls) 2 (body_count program frames c.active.function i) line (line + body_count program frames c.active.function i) c.output _ (Running ready.run) (omega (arith, some)) all) in
          stepped false c t begun.run (suc begun.before.line) i begun.input at (omega (arith, before_line)) begun.is (rest 1 i whole)
      go (plain.Move destination source) at busy is_one = straight (plain.Move destination source) at busy is_one
      go (plain.Unary operator destination operand) at busy is_one = straight (plain.Unary operator destination operand) at busy is_one
      go (plain.Binary operator destination left right) at busy is_one = straight (plain.Binary operator destination left right) at busy is_one
      go (plain.ReadByte destination) at busy is_one = straight (plain.ReadByte destination) at busy is_one
      go (plain.WriteByte source) at busy is_one = straight (plain.WriteByte source) at busy is_one
      go (plain.StoreGlobal global source) at busy is_one = straight (plain.StoreGlobal global source) at busy is_one
      go i at busy is_one = absurd (false≢true is_one)

  known_goes : (c : Configuration) (t : State) → Matches program well frames fit code formed addresses pages calls few (states.Running c) t → Never c → (i : Instruction) → instruction_at program (states.place_of (states.Running c)) ≡ Some i
      → IsStepped above below_machine matching (states.Running c) t
  known_goes c t matches never i at = go (is_idle (frame_at frames c.active.function) c.active.next i) refl matches
    where
      -- The labelled machine (MIPS lines) simulates a step of the plain machine if the current instruction's own lines come next.
      then_goes : (idle : Bool) → is_idle (frame_at frames c.active.function) c.active.next i ≡ idle → (u : State) → Ready program well frames fit code formed addresses pages calls few c u
          → Walk code formed addresses globals_length (words_per_call * calls) (least_of idle) (instruction_line program frames c.active.function c.active.next) (end_of c i) c.output (After program pages calls c) (Comes_to idle c) u
      then_goes idle is u ready =
          subst (Walk code formed addresses globals_length (words_per_call * calls) (least_of idle) (instruction_line program frames c.active.function c.active.next) (end_of c i) c.output (After program pages calls c) (Comes_to idle c)) (sym ready.is)
          (ready_goes idle c u never ready i at is)

      go : (idle : Bool) → is_idle (frame_at frames c.active.function) c.active.next i ≡ idle → Matches program well frames fit code formed addresses pages calls few (states.Running c) t → IsStepped above below_machine matching (states.Running c) t
      go idle is (inl ready) = stepped idle c t ready.run (instruction_line program frames c.active.function c.active.next) i ready.now.input at (omega arith) ready.is (ready_goes idle c t never ready i at is)
      go idle is (inr (inr (inr (inl entered)))) =
          stepped idle c t entered.run (function_line program frames c.active.function) i entered.now.input at
          (entry_before c.active.function c.active.next entered.first) entered.is
          (entered_goes program well frames fit code formed addresses pages calls few c t entered (stand_saving c.active.function entered.standing.known) (least_of idle) (end_of c i) (Comes_to idle c) (then_goes idle is))
      go idle is (inr (inr (inr (inr begun)))) = begun_goes c t begun never
      go idle is (inr (inr (inl landed))) =
          let place : instruction_at program (states.place_of (states.Running c)) ≡ Some (plain.Try landed.first landed.handler) = landed.opened in
          stepped false c t landed.run (instruction_line program frames c.active.function c.active.next + 3) (plain.Try landed.first landed.handler) landed.now.input place (omega arith) landed.is
          (catch_goes program well frames fit code formed addresses pages calls few lie c range_of lands_at t landed (caught_stands c.active.function c.active.next landed.first landed.handler landed.opened))
      go idle is (inr (inl back)) =
          let in_range = in_range_of c.active.function back.index (plain.Call back.callee back.arguments back.count back.result) back.call in
          stepped idle c t back.run (after_line program frames c.active.function back.index back.callee back.arguments back.count back.result) i back.now.input at
          (before_it c.active.function back.index back.callee back.arguments back.count back.result c.active.next back.next back.call) back.is
          (after_goes program well frames fit code formed addresses pages calls few c t back (following_stands c.active.function back.index back.callee back.arguments back.count back.result back.call) in_range.result_in_range (few_results back.callee)
          (least_of idle) (end_of c i) (Comes_to idle c) (then_goes idle is))

  pub all_steps : Steps above below_machine matching
  all_steps (states.Running c) t matches running never = go (instruction_at program (states.place_of (states.Running c))) refl
    where
      go : (o : Option Instruction) → instruction_at program (states.place_of (states.Running c)) ≡ o → IsStepped above below_machine matching (states.Running c) t
      go (Some i) at = known_goes c t matches never i at
      go None at = absurd (stuck_not c never (zeros_allowed program (states.Running c) (ap (call_of c.active.slots) at) (ap callee_of at)) (ap (executed program zeros c) at))
  all_steps (states.Ended ending out input) t matches running never = absurd (let e : simulation.Ended ending ≡ simulation.Running = running in cc)
  all_steps (states.Stuck out input) t matches running never = absurd matches
