-- Each MIPS line of the selected code is well-formed, and the number of machine words of each piece of this code has an upper bound.
use Rattle.std.proofs.Common.{◌≡◌, ℕ, zero, suc, ◌+◌, ◌-◌, ◌*◌, ◌/◌, ◌%◌, ◌^◌, ◌<◌, ◌≤◌, Bool, true, false, List, [], ◌∷◌, ◌++◌, length, take, Option, None, Some, slice_get, refl, ap, subst, ◌∙◌, arith}
use Rattle.std.specs.Prelude.{◌==◌, if◌then◌else◌, slice_index_or}
use Rattle.std.specs.List.{AllByRecursion}
use Rattle.std.proofs.lemmas.Bool.{eqb-true}
use Rattle.std.proofs.lemmas.Option.{none-some}
use Rattle.cyc_words.proofs.Lists.{all_append}
use Rattle.cyc_words.proofs.Members.{All_from_recursion, All_at}
use Rattle.cyc_registers.specs.inside.Bars.{is_crossing}
use Rattle.cyc_isa.specs.declared.instr.Instr.{Instr}
use Rattle.cyc_machine_model.specs.State.{data_base}
use Rattle.cyc_plain.specs.declared.instruction.Instruction.{Instruction}
use Rattle.cyc_plain.specs.declared.instruction.Instruction.TheVariants as plain
use Rattle.cyc_plain.specs.declared.instruction.Operand.{Operand}
use Rattle.cyc_isa.specs.Decoding.{register_of}
use Rattle.cyc_isa.specs.declared.instr.BranchOp.TheVariants as branch
use Rattle.cyc_isa.specs.declared.instr.Instr.TheVariants as machine
use Rattle.cyc_isa.specs.declared.instr.MemoryOp.{MemoryOp}
use Rattle.cyc_isa.specs.declared.instr.MemoryOp.TheVariants.{LoadWord, StoreWord, LoadByte, StoreByte}
use Rattle.cyc_machine_model.specs.declared.constants.TheConstants.{ARGUMENT, END_UNCAUGHT, RETURN_ADDRESS, SECOND_ARGUMENT, SERVICE}
use Rattle.cyc_plain.specs.inside.Program.{Routine, Program, no_routine, routine_at}
use Rattle.cyc_plain.specs.inside.Step.{instruction_at}
use Rattle.cyc_plain.specs.inside.Requests.{first_operand, second_operand, answer_count, destination_of}
use Rattle.cyc_plain.specs.inside.WellFormed.{IsInRange, IsWellFormed, HasWords, HasWord, leaves}
use Rattle.cyc_plain.proofs.Placed.{routine_in, goes_after, has_code}
use Rattle.cyc_plain.specs.declared.limits.TheConstants.{MOST_FRAME_WORDS}
use Rattle.cyc_frame.specs.inside.Layout.{AreFrames, frame_at, slot_word}
use Rattle.cyc_frame.specs.inside.Frame.{Frame}
use Rattle.cyc_select.specs.declared.constants.TheConstants.{FIRST, SECOND, ZERO, START_LINES, HANDLERS, REGIONS, GLOBALS}
use Rattle.cyc_select.specs.declared.code.Line.{Line}
use Rattle.cyc_select.specs.declared.code.Condition.{Condition}
use Rattle.cyc_select.specs.declared.code.Condition.TheVariants as conditions
use Rattle.cyc_select.specs.declared.code.Line.TheVariants as lines
use Rattle.cyc_select.specs.declared.plan.Test.{Test}
use Rattle.cyc_select.specs.inside.Plans.{unary_plan, test_of}
use Rattle.cyc_select.specs.inside.Labelled.{IsFormed, IsFormedLine}
use Rattle.cyc_select.specs.inside.Instructions.{small, syscall, load, store}
use Rattle.cyc_select.specs.inside.Slots.{coming, arriving, arrivals, saves_from, restores_from, saves, restores, way_code, way_count, value_register, keep_code, bring_all, load_words, reloads, made_in, result_registers, load_all}
use Rattle.cyc_select.specs.inside.Slots.{store_all, pop_frame, upper_of_global, global_code, is_near, global_address, saving_code, restoring_code, saving_count}
use Rattle.cyc_select.specs.inside.Operands.{word_code, load_code, load_count, operand_code, operand_register}
use Rattle.cyc_select.specs.inside.Operands.{test_code, condition_of}
use Rattle.cyc_select.specs.inside.Passing.{copies, spills, spills_count}
use Rattle.cyc_select.specs.inside.Hoisting.{hoisted, is_idle, first_line}
use Rattle.cyc_select.specs.inside.Counts.{after_count, ending_count, body_count, count_of, code_count, function_count, functions_count, function_line, instruction_line}
use Rattle.cyc_select.specs.inside.Selection.{opened_code, ordinary, argument_code, service_number, answer_code, unwound_code, moves, all_moved, branch_code, ending_code, body, following, place_lines, code_lines}
use Rattle.cyc_select.specs.inside.Selection.{function_lines, start_lines, select_of, regions_code, calling_code, returning_code, routine_lines, store_global}
use Rattle.cyc_select.proofs.relation.Arriving.{length_arriving}
use Rattle.cyc_select.proofs.layout.Lines.{line_first, line_next}
use Rattle.cyc_select.proofs.emission.Counts.{length_registers, answer_few, service_small}
use Rattle.cyc_select.proofs.steps.Hoisting.{Hoists, hoists, first_begins, test_starts}
use Rattle.cyc_select.proofs.steps.Returns.{loaded}
use Rattle.cyc_select.proofs.layout.Structure.{length_body, stand}
use Rattle.cyc_select.proofs.layout.Inside.{few_results, range_at, count_some, body_inside, place_inside}
use Rattle.cyc_select.proofs.layout.FormedOperations.{slot_fits, formed_append, regions_formed, low_fits, word_formed, loaded_formed, loads_formed, words_formed, reload_formed, keep_formed, give_formed, stores_formed, brought_formed, spills_formed, copies_formed}
use Rattle.cyc_select.proofs.layout.FormedOperations.{IsThere, load_formed, argument_formed, operand_formed, plan_formed, unary_there, operator_formed, move_formed, moves_formed, load_formed_at, store_formed_at, branch_test_formed, read_formed, write_formed}

-- ---- properties of all parts of the code

module _ (program : Program) (frames : List Frame) (P : Line → Type 0) where
  code_all : (function first here : ℕ) (code : List Instruction)
      → ((k index n : ℕ) (i : Instruction) → slice_get code k ≡ Some i → index ≡ first + k → n ≡ here + code_count program frames function first (take k code) → AllByRecursion P (place_lines program frames function index n i ++ following program frames function i))
      → AllByRecursion P (code_lines program frames function first here code)
  code_all function first here [] each = tt
  code_all function first here (i ∷ code) each =
      all_append P (place_lines program frames function first here i ++ following program frames function i) (code_lines program frames function (suc first) (here + count_of program frames function first i) code)
      (each 0 first here i refl (omega arith) (omega arith))
      (code_all function (suc first) (here + count_of program frames function first i) code
      (λ k index n j at index_is is. each (suc k) index n j at (omega (arith, index_is)) (omega (arith, is))))

  functions_all : (first here : ℕ) (routines : List Routine)
      → ((k n : ℕ) → k < length routines → n ≡ here + functions_count program frames first (take k routines) → AllByRecursion P (routine_lines program frames (first + k) n (slice_index_or routines k no_routine)))
      → AllByRecursion P (function_lines program frames first here routines)
  functions_all first here [] each = tt
  functions_all first here (r ∷ routines) each =
      let same : first + 0 ≡ first = omega arith in
      all_append P (routine_lines program frames first here r) (function_lines program frames (suc first) (here + function_count program frames first r) routines)
      (subst (λ (f : ℕ). AllByRecursion P (routine_lines program frames f here r)) same (each 0 here (omega arith) (omega arith)))
      (functions_all (suc first) (here + function_count program frames first r) routines
      (λ k n below is.
      let next : first + suc k ≡ suc first + k = omega arith in
      subst (λ (f : ℕ). AllByRecursion P (routine_lines program frames f n (slice_index_or routines k no_routine))) next (each (suc k) n (omega (arith, below)) (omega (arith, is)))))

module _ (program : Program) (well : IsWellFormed program) (words : HasWords program) (frames : List Frame) (fit : AreFrames program frames) where
  abbrev line_count : ℕ
  line_count = length (select_of program frames).lines

  abbrev Formed : List Line → Type 0
  Formed ls = AllByRecursion (IsFormedLine line_count) ls

  -- The MIPS lines of each instruction that needs machine code lie within the emitted code.
  line_known : (function index : ℕ) (i : Instruction) → instruction_at program (record { function = function; index = index }) ≡ Some i → is_idle (frame_at frames function) index i ≡ false
      → instruction_line program frames function index + body_count program frames function i ≤ line_count
  line_known function index i at busy =
      body_inside program well frames fit (select_of program frames) (stand program frames (few_results program well)) (length_body program frames (few_results program well)) function index i at busy

  target_known : (function target : ℕ) → target < length (routine_at program function).code → instruction_line program frames function target < line_count
  target_known function target below =
      place_inside program well frames fit (select_of program frames) (stand program frames (few_results program well)) (length_body program frames (few_results program well)) function target below

  function_known_line : (function : ℕ) → function < length program.functions → function_line program frames function < line_count
  function_known_line function below =
      omega (arith, line_first program frames function, target_known function 0 (has_code program (routine_at program function) (routine_in program function well below)))

  module _ (function : ℕ) (known : function < length program.functions) where
    abbrev frame : Frame
    frame = frame_at frames function

    abbrev routine : Routine
    routine = routine_at program function

    within : (slot : ℕ) → slot < routine.slots → slot_word frame slot < MOST_FRAME_WORDS
    within slot below = let f = fit.each function known in omega (arith, f.inside slot below, f.small)

    return_fits : 4 * frame.return_address < 2 ^ 16
    return_fits = let f = fit.each function known in omega (arith, f.return_inside, f.small)

    reloads_formed : Formed (ordinary (reloads frame))
    reloads_formed = reload_formed line_count frame routine within 0 frame.homes (omega (arith, (fit.homes function known).as_many))

    arrivals_formed : Formed (ordinary (arrivals frame))
    arrivals_formed =
        let its = fit.each function known in
        let takes = (routine_in program function well known).parameters in
        let listed : frame.parameters ≤ length frame.homes = omega (arith, its.parameters, takes, (fit.homes function known).as_many) in
        reload_formed line_count frame routine within 0 (arriving frame) (omega (arith, length_arriving frame.parameters frame.homes listed, its.parameters, takes))

    ending_formed : (b : Bool) (n value : ℕ) → (function == program.main) ≡ b → value + routine.results ≤ routine.slots → n + (ending_count program function + routine.results + 2) ≤ line_count → Formed (ending_code b frame n value)
    ending_formed false n value is fits long = tt
    ending_formed true n value is fits long =
        let one : routine.results ≡ 1 = ap (λ (f : ℕ). (routine_at program f).results) (eqb-true function program.main is) ∙ well.main_results in
        let four : ending_count program function ≡ 4 = ap (λ (b : Bool). if b then 4 else 0) is in
        ((omega (arith, long, four)), ((loaded_formed line_count frame routine within (value_register frame value) ARGUMENT value (omega (arith, fits, one))).0, ((refl, (omega arith)), ((refl, tt), tt))))

    -- The MIPS lines that save and restore callee-saved registers are well-formed.
    saved_fits : (j : ℕ) → j < 7 → 4 * (frame.first_saved + j) < 2 ^ 16
    saved_fits j below = (let f = fit.each function known in let inside = f.saved_inside j below in omega (arith, inside, f.small))

    saves_formed : (j count : ℕ) → j + count ≤ 7 → Formed (ordinary (saves_from frame.first_saved j count))
    saves_formed j zero few = tt
    saves_formed j (suc count) few = ((refl, saved_fits j (omega (arith, few))), saves_formed (suc j) count (omega (arith, few)))

    restores_formed : (j count : ℕ) → j + count ≤ 7 → Formed (ordinary (restores_from frame.first_saved j count))
    restores_formed j zero few = tt
    restores_formed j (suc count) few = ((refl, saved_fits j (omega (arith, few))), restores_formed (suc j) count (omega (arith, few)))

    -- The MIPS line that saves the return address is well-formed.
    way_formed : Formed (ordinary (way_code frame))
    way_formed = go frame.saves
      where
        go : (b : Bool) → Formed (ordinary (if b then store RETURN_ADDRESS (4 * frame.return_address) ∷ [] else []))
        go true = ((refl, return_fits), tt)
        go false = tt

    saving_formed : Formed (ordinary (saving_code frame))
    saving_formed =
        formed_append line_count (way_code frame) (saves frame ++ arrivals frame) way_formed
        (formed_append line_count (saves frame) (arrivals frame) (saves_formed 0 frame.saved (omega (arith, (fit.each function known).most_saved))) arrivals_formed)

    restoring_formed : Formed (ordinary (restoring_code frame))
    restoring_formed = go frame.saves
      where
        go : (b : Bool) → Formed (ordinary (if b then load RETURN_ADDRESS (4 * frame.return_address) ∷ [] else []))
        go true = ((refl, return_fits), tt)
        go false = tt

    returning_formed : (n value : ℕ) → value + routine.results ≤ routine.slots → n + (way_count frame + ending_count program function + (routine.results + frame.saved + 2)) ≤ line_count
        → Formed (returning_code (function == program.main) frame n value routine.results)
    returning_formed n value in_range long =
        let few = few_results program well function in
        let registers = length_registers routine.results few in
        let there : ℕ = n + way_count frame in
        let ends : List Line = ending_code (function == program.main) frame there value in
        let loads : List Line = ordinary (loaded frame value routine.results) in
        all_append (IsFormedLine line_count) (ordinary (restoring_code frame)) (ends ++ loads ++ lines.Return ∷ []) restoring_formed
        (all_append (IsFormedLine line_count) (ends ++ loads) (lines.Return ∷ [])
        (all_append (IsFormedLine line_count) ends loads
        (ending_formed (function == program.main) there value refl in_range (omega (arith, long)))
        (formed_append line_count (load_all frame value (result_registers routine.results)) (restores frame ++ pop_frame ∷ []) (loads_formed line_count frame routine within value (result_registers routine.results) (omega (arith, registers, in_range)))
        (formed_append line_count (restores frame) (pop_frame ∷ []) (restores_formed 0 frame.saved (omega (arith, (fit.each function known).most_saved))) ((refl, (omega arith)), tt))))
        (tt, tt))

    upper_fits : (global : ℕ) → global < length program.globals → (data_base + 4 * global + 2 ^ 15) / 2 ^ 16 < 2 ^ 16
    upper_fits global below = omega (arith, below, well.globals)

    global_formed : (op : MemoryOp) (register global : ℕ) → global < length program.globals → Formed (ordinary (global_code op register global))
    global_formed op register global below = go (is_near global)
      where
        go : (b : Bool)
            → Formed (ordinary ((if b then [] else upper_of_global global ∷ []) ++ machine.Memory op (register_of register) (register_of (if b then GLOBALS else SECOND)) ((if b then global_address global + 2 ^ 15 else global_address global) % 2 ^ 16) ∷ []))
        go true = ((refl, low_fits line_count (global_address global + 2 ^ 15)), tt)
        go false = ((refl, upper_fits global below), ((refl, low_fits line_count (global_address global)), tt))

    global_stored_formed : (global : ℕ) (source : Operand) → global < length program.globals → IsThere line_count frame routine within source → Formed (store_global frame global source)
    global_stored_formed global source below there =
        formed_append line_count (operand_code frame FIRST source) (global_code StoreWord (operand_register frame FIRST source) global) (operand_formed line_count frame routine within FIRST source there)
        (global_formed StoreWord (operand_register frame FIRST source) global below)

    -- An instruction's first line, which may be hoisted before a branch, is well-formed.
    first_formed : (i : Instruction) (n : ℕ) (x : Instr) → first_line frame i ≡ Some x → IsInRange program routine i → HasWord i → n + body_count program frames function i ≤ line_count
        → IsFormedLine line_count (lines.Ordinary x)
    first_formed i n x is in_range fits long = go i is in_range fits long
      where
        -- The first line of an instruction is well-formed if all lines of this instruction are.
        at_head : (j : Instruction) → first_line frame j ≡ Some x → Formed (body program frames function n j) → IsFormedLine line_count (lines.Ordinary x)
        at_head j begun all = let head = first_begins program frames function j x begun n in (subst Formed head.1 all).0

        go : (j : Instruction) → first_line frame j ≡ Some x → IsInRange program routine j → HasWord j → n + body_count program frames function j ≤ line_count
            → IsFormedLine line_count (lines.Ordinary x)
        go (plain.Move destination source) begun (a, b) words_fit below = at_head (plain.Move destination source) begun (move_formed line_count frame routine within destination source a (b, words_fit))
        go (plain.Unary operator destination operand) begun (a, b) words_fit below =
            at_head (plain.Unary operator destination operand) begun (plan_formed line_count frame routine within (unary_plan operator operand) destination (unary_there line_count frame routine within operator operand (b, words_fit)) a)
        go (plain.Binary operator destination left right) begun (a, b, e) (words_fit, also) below =
            at_head (plain.Binary operator destination left right) begun (operator_formed line_count frame routine within operator destination left right n a (b, words_fit) (e, also) below)
        go (plain.Branch comparison left right target) begun (a, b, inside) (words_fit, also) below =
            let test : Test = test_of comparison left right in
            let (rest, same) = test_starts frame test x begun in
            (subst (λ (is : List Instr). Formed (ordinary is)) same (branch_test_formed line_count frame routine within comparison left right (a, words_fit) (b, also))).0
        go (plain.ReadByte destination) begun inside words_fit below = at_head (plain.ReadByte destination) begun (read_formed line_count frame routine within destination inside)
        go (plain.WriteByte source) begun inside words_fit below = at_head (plain.WriteByte source) begun (write_formed line_count frame routine within source (inside, words_fit))
        go (plain.StoreGlobal global source) begun (a, b) words_fit below = at_head (plain.StoreGlobal global source) begun (global_stored_formed global source a (b, words_fit))
        go j begun inside words_fit below = absurd (none-some x begun)

    -- An instruction whose first line can be hoisted does not leave the code: the next instruction follows it.
    stays : (i : Instruction) (x : Instr) → first_line frame i ≡ Some x → leaves i ≡ false
    stays (plain.Move destination source) x is = refl
    stays (plain.Unary operator destination operand) x is = refl
    stays (plain.Binary operator destination left right) x is = refl
    stays (plain.Branch comparison left right target) x is = refl
    stays (plain.ReadByte destination) x is = refl
    stays (plain.WriteByte source) x is = refl
    stays (plain.StoreGlobal global source) x is = refl
    stays i x is = absurd (none-some x is)

    -- A MIPS line hoisted before a branch is well-formed, and so is the label to which the branch then jumps.
    module _ (target : ℕ) (condition : Condition) (x : Instr) (its : Hoists program frames function target condition x) where
      hoisted_formed : IsFormedLine line_count (lines.Ordinary x)
      hoisted_formed =
          first_formed its.i (instruction_line program frames function target) x its.line (range_at program well (record { function = function; index = target }) its.i its.at)
          (All_at HasWord routine.code target its.i (words.functions function no_routine known) its.at) (line_known function target its.i its.at its.busy)

      following_known : instruction_line program frames function target + 1 < line_count
      following_known =
          let further = goes_after program routine target its.i (routine_in program function well known) its.at (stays its.i x its.line) in
          let some = count_some program frames function its.i (range_at program well (record { function = function; index = target }) its.i its.at) in
          let counted = ap (λ (b : Bool). (if b then 0 else body_count program frames function its.i) + after_count program frames function its.i) its.busy in
          omega (arith, target_known function (target + 1) further, line_next program frames function target its.i its.at, counted, some)

    -- `IsFormedBy` says nothing of the lines of an `Enter` instruction (a check for stack space), because its branch jumps to the next
    -- instruction's first line. The lemma `place_formed` proves that the line to which the branch of `Enter` jumps exists.
    abbrev IsFormedBy : Instruction → List Line → Type 0
    IsFormedBy (plain.Enter callee) ls = Unit {0}
    IsFormedBy i ls = Formed ls

    body_formed : (i : Instruction) (n : ℕ) → IsInRange program routine i → HasWord i → n + body_count program frames function i ≤ line_count → IsFormedBy i (body program frames function n i)
    body_formed (plain.Move destination source) n (a, b) fits long = move_formed line_count frame routine within destination source a (b, fits)
    body_formed (plain.Unary operator destination operand) n (a, b) fits long =
        plan_formed line_count frame routine within (unary_plan operator operand) destination (unary_there line_count frame routine within operator operand (b, fits)) a
    body_formed (plain.Binary operator destination left right) n (a, b, e) (fits, also) long = operator_formed line_count frame routine within operator destination left right n a (b, fits) (e, also) long
    body_formed (plain.Jump target) n below fits long = (target_known function target below, tt)
    body_formed (plain.Branch comparison left right target) n (a, b, below) (fits, also) long =
        go (hoisted frame routine.code (test_of comparison left right) target) refl
      where
        test_there : Formed (ordinary (test_code frame (test_of comparison left right)))
        test_there = branch_test_formed line_count frame routine within comparison left right (a, fits) (b, also)

        go : (first : Option Instr) → hoisted frame routine.code (test_of comparison left right) target ≡ first
            → Formed (branch_code frame (test_of comparison left right) first (instruction_line program frames function target))
        go None is =
            all_append (IsFormedLine line_count) (ordinary (test_code frame (test_of comparison left right))) (lines.Branch (condition_of frame (test_of comparison left right)) (instruction_line program frames function target) ∷ [])
            test_there (target_known function target below, tt)
        go (Some x) is =
            let test : Test = test_of comparison left right in
            let its = hoists program frames function target (test_of comparison left right) x is in
            all_append (IsFormedLine line_count) (ordinary (test_code frame (test_of comparison left right) ++ x ∷ [])) (lines.Branch (condition_of frame (test_of comparison left right)) (instruction_line program frames function target + 1) ∷ [])
            (formed_append line_count (test_code frame test) (x ∷ []) test_there (hoisted_formed target (condition_of frame test) x its, tt))
            (following_known target (condition_of frame test) x its, tt)
    body_formed (plain.Call callee arguments count result) n in_range fits long =
        let its = fit.each callee in_range.function_in_range in
        let spilled : ℕ = n + spills_count frame (coming (frame_at frames callee)) arguments 0 count in
        all_append (IsFormedLine line_count) (ordinary (spills frame (coming (frame_at frames callee)) arguments 0 count)) (calling_code frame (coming (frame_at frames callee)) spilled (function_line program frames callee) arguments count)
        (spills_formed line_count frame routine within (coming (frame_at frames callee)) arguments 0 count in_range.arguments_in_range) (
          (omega (arith, long)),
          (
            (refl, (omega arith)),
            (
              (refl, tt),
              (
                (refl, (omega arith)),
                all_append (IsFormedLine line_count) (ordinary (copies frame (coming (frame_at frames callee)) arguments 0 count)) (lines.Call (function_line program frames callee) ∷ [])
                    (copies_formed line_count frame routine within (coming (frame_at frames callee)) (routine_at program callee).slots (λ slot below. omega (arith, its.inside slot below, its.small)) arguments 0 count in_range.arguments_in_range
                    (let takes = in_range.takes in let parameters = (routine_in program callee well in_range.function_in_range).parameters in omega (arith, takes, parameters)))
                    (function_known_line callee in_range.function_in_range, tt),
              ),
            ),
          ),
        )
    body_formed (plain.Return value) n in_range fits long = returning_formed n value in_range long
    body_formed (plain.Finish value) n in_range fits long = returning_formed n value in_range long
    body_formed (plain.ReadByte destination) n below fits long = read_formed line_count frame routine within destination below
    body_formed (plain.WriteByte source) n below fits long = write_formed line_count frame routine within source (below, fits)
    body_formed (plain.AddressOf destination slot count) n (a, some, named) fits long =
        ((refl, slot_fits line_count frame routine within slot (omega (arith, some, named))), keep_formed line_count frame routine within destination a)
    body_formed (plain.LoadGlobal destination global) n (a, b) fits long =
        formed_append line_count (global_code LoadWord (made_in frame destination) global) (keep_code frame destination) (global_formed LoadWord (made_in frame destination) global b) (keep_formed line_count frame routine within destination a)
    body_formed (plain.StoreGlobal global source) n (a, b) fits long = global_stored_formed global source a (b, fits)
    body_formed (plain.MoveWords destination source count) n in_range fits long =
        go (is_crossing destination source count)
      where
        go : (b : Bool) → Formed (ordinary (if b then all_moved frame destination source count else moves frame destination source count))
        go true =
            let registers = length_registers count in_range.few in
            formed_append line_count (load_words frame source (result_registers count)) (store_all frame destination (result_registers count))
            (words_formed line_count frame routine within source (result_registers count) (omega (arith, registers, in_range.source_in_range)))
            (stores_formed line_count frame routine within destination (result_registers count) (omega (arith, registers, in_range.destination_in_range)))
        go false = moves_formed line_count frame routine within destination source count in_range.destination_in_range in_range.source_in_range
    body_formed (plain.Load destination address offset) n (a, b) (fits, near) long = load_formed_at line_count frame routine within LoadWord destination address offset a (b, fits) near
    body_formed (plain.Store address offset source) n (a, b) (fits, near, also) long = store_formed_at line_count frame routine within StoreWord address offset source (a, fits) near (b, also)
    body_formed (plain.LoadByte destination address offset) n (a, b) (fits, near) long = load_formed_at line_count frame routine within LoadByte destination address offset a (b, fits) near
    body_formed (plain.StoreByte address offset source) n (a, b) (fits, near, also) long = store_formed_at line_count frame routine within StoreByte address offset source (a, fits) near (b, also)
    body_formed (plain.Ask request) n in_range (fits, also) long =
        let js : List Instr = argument_code frame SECOND_ARGUMENT (second_operand request) in
        let last : List Instr = small SERVICE (service_number request) ∷ syscall ∷ (regions_code request ++ answer_code frame request) in
        let registers = length_registers (answer_count request) (omega (arith, answer_few request)) in
        formed_append line_count (argument_code frame ARGUMENT (first_operand request)) (js ++ last) (argument_formed line_count frame routine within ARGUMENT (first_operand request) in_range.first_in_range fits)
        (formed_append line_count js last (argument_formed line_count frame routine within SECOND_ARGUMENT (second_operand request) in_range.second_in_range also) (
          (refl, omega (arith, service_small request)),
          (
            (refl, tt),
            formed_append line_count (regions_code request) (answer_code frame request) (regions_formed line_count request)
                (brought_formed line_count frame routine within false (destination_of request) (result_registers (answer_count request)) (omega (arith, registers, in_range.answer_in_range))),
          ),
        ))
    body_formed (plain.CountLexical destination) n below fits long = give_formed line_count frame routine within REGIONS destination below
    body_formed (plain.Try first handler) n in_range fits long =
        let inside : first + 4 ≤ routine.slots = in_range.record_in_range in (
          (refl, slot_fits line_count frame routine within first (omega (arith, inside))),
          (
            (refl, slot_fits line_count frame routine within (first + 1) (omega (arith, inside))),
            (
              (omega (arith, long)),
              (
                (refl, slot_fits line_count frame routine within first (omega (arith, inside))),
                (
                  (refl, slot_fits line_count frame routine within (suc first) (omega (arith, inside))),
                  all_append (IsFormedLine line_count) (ordinary (reloads frame))
                      (lines.Jump (instruction_line program frames function handler) ∷ ordinary (opened_code frame first)) reloads_formed (
                        target_known function handler in_range.handler_in_range,
                        ((refl, slot_fits line_count frame routine within (first + 2) (omega (arith, inside))), ((refl, slot_fits line_count frame routine within first (omega (arith, inside))), tt)),
                      ),
                ),
              ),
            ),
          ),
        )
    body_formed (plain.Leave first) n in_range fits long = ((refl, slot_fits line_count frame routine within first (let inside : first + 4 ≤ routine.slots = in_range in omega (arith, inside))), tt)
    body_formed (plain.Throw tag value) n (a, b) (fits, also) long =
        all_append (IsFormedLine line_count) (ordinary (load_code frame ARGUMENT tag ++ load_code frame SECOND_ARGUMENT value))
        (lines.Branch (conditions.Registers branch.NotEqual (register_of HANDLERS) (register_of ZERO)) (n + (load_count tag + load_count value) + 3) ∷ ordinary (small SERVICE END_UNCAUGHT ∷ syscall ∷ []) ++ (ordinary unwound_code ++ lines.Return ∷ []))
        (formed_append line_count (load_code frame ARGUMENT tag) (load_code frame SECOND_ARGUMENT value) (load_formed line_count frame routine within ARGUMENT tag (a, fits)) (load_formed line_count frame routine within SECOND_ARGUMENT value (b, also)))
        ((omega (arith, long)), ((refl, (omega arith)), ((refl, tt), ((refl, (omega arith)), ((refl, (omega arith)), ((refl, (omega arith)), (tt, tt)))))))
    body_formed (plain.Uncaught tag value) n below (tag_fits, value_fits) long =
        formed_append line_count (word_code ARGUMENT tag) (load_code frame SECOND_ARGUMENT value ++ small SERVICE END_UNCAUGHT ∷ syscall ∷ []) (word_formed line_count ARGUMENT tag tag_fits)
        (formed_append line_count (load_code frame SECOND_ARGUMENT value) (small SERVICE END_UNCAUGHT ∷ syscall ∷ []) (load_formed line_count frame routine within SECOND_ARGUMENT value (below, value_fits)) ((refl, (omega arith)), ((refl, tt), tt)))
    body_formed (plain.Enter callee) n in_range fits long = tt

    after_formed : (i : Instruction) → IsInRange program routine i → Formed (following program frames function i)
    after_formed (plain.Call callee arguments count result) in_range =
        let registers = length_registers (routine_at program callee).results (few_results program well callee) in
        formed_append line_count (bring_all true frame result (result_registers (routine_at program callee).results)) (reloads frame)
        (brought_formed line_count frame routine within true result (result_registers (routine_at program callee).results) (omega (arith, registers, in_range.result_in_range))) reloads_formed
    after_formed (plain.Move destination source) in_range = tt
    after_formed (plain.Unary operator destination operand) in_range = tt
    after_formed (plain.Binary operator destination left right) in_range = tt
    after_formed (plain.Jump target) in_range = tt
    after_formed (plain.Branch comparison left right target) in_range = tt
    after_formed (plain.Return value) in_range = tt
    after_formed (plain.ReadByte destination) in_range = tt
    after_formed (plain.WriteByte source) in_range = tt
    after_formed (plain.AddressOf destination slot count) in_range = tt
    after_formed (plain.LoadGlobal destination global) in_range = tt
    after_formed (plain.StoreGlobal global source) in_range = tt
    after_formed (plain.MoveWords destination source count) in_range = tt
    after_formed (plain.Load destination address offset) in_range = tt
    after_formed (plain.Store address offset source) in_range = tt
    after_formed (plain.LoadByte destination address offset) in_range = tt
    after_formed (plain.StoreByte address offset source) in_range = tt
    after_formed (plain.Ask request) in_range = tt
    after_formed (plain.CountLexical destination) in_range = tt
    after_formed (plain.Try first handler) in_range = tt
    after_formed (plain.Leave first) in_range = tt
    after_formed (plain.Throw tag value) in_range = tt
    after_formed (plain.Finish value) in_range = tt
    after_formed (plain.Uncaught tag value) in_range = tt
    after_formed (plain.Enter callee) in_range = tt

  place_formed : (function index n : ℕ) (i : Instruction) → function < length program.functions → instruction_at program (record { function = function; index = index }) ≡ Some i → n ≡ instruction_line program frames function index
      → Formed (place_lines program frames function index n i)
  place_formed function index n (plain.Enter callee) known at here =
      let further : index + 1 < length (routine_at program function).code = goes_after program (routine_at program function) index (plain.Enter callee) (routine_in program function well known) at refl in
      let next = target_known function (index + 1) further in
      let line = line_next program frames function index (plain.Enter callee) at in
      (omega (arith, here, next, line), ((refl, (omega arith)), ((refl, tt), tt)))
  place_formed function index n i known at here = go (is_idle (frame_at frames function) index i) refl
    where
      go : (b : Bool) → is_idle (frame_at frames function) index i ≡ b → Formed (if b then [] else body program frames function n i)
      go true idle = tt
      go false busy =
          body_formed function known i n (range_at program well (record { function = function; index = index }) i at) (All_at HasWord (routine_at program function).code index i (words.functions function no_routine known) at)
          (omega (arith, here, line_known function index i at busy))

  function_formed : (function n : ℕ) → function < length program.functions → n ≡ function_line program frames function → Formed (routine_lines program frames function n (routine_at program function))
  function_formed function n known is =
      all_append (IsFormedLine line_count) (ordinary (saving_code (frame_at frames function))) (code_lines program frames function 0 (n + saving_count (frame_at frames function)) (routine_at program function).code)
      (saving_formed function known)
      (code_all program frames (IsFormedLine line_count) function 0 (n + saving_count (frame_at frames function)) (routine_at program function).code
      (λ k index m i at index_is m_is.
      let same : index ≡ k = omega (arith, index_is) in
      let there : slice_get (routine_at program function).code index ≡ Some i = ap (slice_get (routine_at program function).code) same ∙ at in
      let here : m ≡ instruction_line program frames function index = omega (arith, m_is, is, ap (instruction_line program frames function) same) in
      all_append (IsFormedLine line_count) (place_lines program frames function index m i) (following program frames function i)
      (place_formed function index m i known there here)
      (after_formed function known i (range_at program well (record { function = function; index = index }) i there))))

  pub formed : IsFormed (select_of program frames)
  formed =
      All_from_recursion (IsFormedLine line_count) (start_lines program frames ++ function_lines program frames 0 START_LINES program.functions)
      (all_append (IsFormedLine line_count) (start_lines program frames) (function_lines program frames 0 START_LINES program.functions)
      ((refl, (omega arith)), ((refl, (omega arith)), ((refl, tt), ((refl, tt), ((refl, (omega arith)), (function_known_line program.main well.main, tt))))))
      (functions_all program frames (IsFormedLine line_count) 0 START_LINES program.functions
      (λ k n below is.
      let same : k ≡ 0 + k = omega arith in
      subst (λ (f : ℕ). Formed (routine_lines program frames f n (routine_at program k))) same (function_formed k n below is))))
