-- The number of words of the emitted code is bounded by the size of the plain program.
use Rattle.std.proofs.Common.{◌≡◌, ℕ, suc, ◌+◌, ◌*◌, ◌≤◌, Bool, true, false, List, [], ◌∷◌, ◌++◌, length, refl, ap, arith, length-append}
use Rattle.std.specs.Prelude.{Option, sum_by, ◌==◌, if◌then◌else◌}
use Rattle.std.specs.List.{range_with_len}
use Rattle.std.proofs.lemmas.List.Sums.{sum_by-cons, sum_by-append}
use Rattle.std.proofs.lemmas.Option.{get_or_from_slice_get}
use Rattle.cyc_isa.specs.declared.instr.Instr.{Instr}
use Rattle.cyc_plain.specs.declared.instruction.Instruction.{Instruction}
use Rattle.cyc_plain.specs.declared.instruction.Instruction.TheVariants as plain
use Rattle.cyc_plain.specs.declared.instruction.BinaryOperator.{BinaryOperator}
use Rattle.cyc_plain.specs.declared.instruction.BinaryOperator.TheVariants as binary
use Rattle.cyc_plain.specs.declared.instruction.Operand.{Operand}
use Rattle.cyc_plain.specs.inside.Requests.{first_operand, second_operand, answer_count, destination_of}
use Rattle.cyc_isa.specs.declared.instr.MemoryOp.{MemoryOp}
use Rattle.cyc_isa.specs.declared.instr.MemoryOp.TheVariants.{LoadWord, StoreWord, LoadByte, StoreByte}
use Rattle.cyc_isa.specs.declared.instr.MoveFromOp.{MoveFromOp}
use Rattle.cyc_machine_model.specs.declared.constants.TheConstants.{ARGUMENT, END_UNCAUGHT, PUT_BYTE, SECOND_ARGUMENT, SERVICE, RETURN_ADDRESS}
use Rattle.cyc_plain.specs.inside.Program.{Routine, Program, routine_at, operator_size, instruction_size, size}
use Rattle.cyc_frame.specs.inside.Layout.{frame_at, loses, loses_any, returns}
use Rattle.cyc_frame.specs.inside.Frame.{Frame}
use Rattle.cyc_select.specs.declared.code.Line.{Line}
use Rattle.cyc_select.specs.declared.code.Condition.TheVariants as conditions
use Rattle.cyc_select.specs.declared.code.Line.TheVariants as lines
use Rattle.cyc_select.specs.declared.constants.TheConstants.{FIRST, SECOND, THIRD, FRAME, LOWEST, HANDLERS, REGIONS, ZERO}
use Rattle.cyc_select.specs.declared.plan.Plan.{Plan}
use Rattle.cyc_select.specs.declared.plan.Test.{Test}
use Rattle.cyc_select.specs.inside.Plans.{unary_plan, binary_plan, test_of}
use Rattle.cyc_select.specs.inside.Labelled.{Labelled, words_of, all_words}
use Rattle.cyc_select.specs.inside.Selected.{words_at}
use Rattle.cyc_select.specs.inside.Instructions.{slot_offset, small, syscall, store, add_immediate, load}
use Rattle.cyc_select.specs.inside.Slots.{arrivals, coming, value_register, keep_code, give_code, reloads, made_in, bring_all, result_registers, push_frame, global_code, saves_from, way_code, saving_code, restoring_code, way_count, saving_count}
use Rattle.cyc_select.specs.inside.Operands.{operand_count, operand_register, reload_count, address_code, at_address, word_code, load_code, load_count, operand_code, plan_code, test_code, condition_of, is_tested}
use Rattle.cyc_select.specs.inside.Passing.{copies, spills, spills_count}
use Rattle.cyc_select.specs.inside.Hoisting.{hoisted, with_hoisted, after_hoisted, is_idle}
use Rattle.cyc_select.specs.inside.Counts.{count_of, function_count, function_line, instruction_line}
use Rattle.cyc_select.specs.inside.Selection.{product_code, quotient_code, recorded_code, caught_code, move_to, moved_code, opened_code, ordinary, argument_code, service_number, answer_code, unwound_code, branch_code, divided_code, divide_code, part_of, ending_code, operator_code, body, following}
use Rattle.cyc_select.specs.inside.Selection.{place_lines, code_lines, function_lines, regions_code, load_at, store_at, calling_code, returning_code, routine_lines}
use Rattle.cyc_isa.specs.Decoding.{register_of}
use Rattle.cyc_isa.specs.declared.instr.BranchOp.TheVariants as branch
use Rattle.cyc_select.proofs.emission.Counts.{length_keep, length_give, length_move, length_moved, length_spills, spills_few, length_copies, copies_few, move_words_small, keep_few, give_small, move_small, argument_small}
use Rattle.cyc_select.proofs.emission.Counts.{regions_small, gives_small, length_argument, length_answer, length_regions, length_results, length_registers, word_small, load_small, operand_small, address_small, plan_small}
use Rattle.cyc_select.proofs.emission.Counts.{unary_small, test_small, length_word, length_load, length_operand, length_address, length_plan, length_test, length_divided, reach_few, length_global, length_hoisted, hoisted_few}
use Rattle.cyc_select.proofs.steps.Preserving.{length_saves}
use Rattle.cyc_select.proofs.steps.Returns.{loaded, length_loaded}
use Rattle.cyc_select.proofs.emission.Numbering.{ReadsFew, losing, losing_next, returning, returning_next, IsSaving, AreSaved, saved_first, saved_next}
use Rattle.cyc_select.proofs.relation.Values.{length_reloads}
use Rattle.cyc_select.proofs.relation.Arriving.{length_arrivals}
use Rattle.cyc_select.proofs.effects.Sequences.{Stands}

words_ordinary : (is : List Instr) → all_words (ordinary is) ≡ length is
words_ordinary [] = refl
words_ordinary (i ∷ is) = omega (arith, sum_by-cons words_of (lines.Ordinary i) (ordinary is), words_ordinary is)

-- If a sequence of lines stands at a line number, this range of the code has as many machine words as the sequence.
pub words_range : (code : Labelled) (a : ℕ) (ls : List Line) → Stands code a ls → sum_by (words_at code) (range_with_len a (length ls)) ≡ all_words ls
words_range code a [] stands = refl
words_range code a (l ∷ ls) (first, rest) =
    let here : words_at code a ≡ words_of l = ap words_of (get_or_from_slice_get code.lines a l lines.Return first) in
    omega (arith, sum_by-cons (words_at code) a (range_with_len (a + 1) (length ls)), sum_by-cons words_of l ls, here, words_range code (a + 1) ls rest)

module _ (program : Program) (frames : List Frame) (reads_few : (function : ℕ) → ReadsFew frames function) (few_results : (function : ℕ) → (routine_at program function).results ≤ 3) where
  divide_words : (frame : Frame) (here : ℕ) (which : MoveFromOp) (destination : ℕ) (left right : Operand) → all_words (divide_code frame here which destination left right) ≤ 15
  divide_words frame here which destination left right =
      let last : List Instr = quotient_code frame which destination (operand_register frame FIRST left) (operand_register frame SECOND right) in
      let jump : Line = lines.Jump (here + (operand_count frame left + operand_count frame right) + 5) in
      let product : Line = lines.Ordinary (product_code which (operand_register frame FIRST left)) in
      let test : Line = lines.Branch (conditions.Registers branch.NotEqual (register_of (operand_register frame SECOND right)) (register_of THIRD)) (here + (operand_count frame left + operand_count frame right) + 4) in
      omega (arith, sum_by-append words_of (ordinary (divided_code frame left right)) (test ∷ product ∷ jump ∷ ordinary last), words_ordinary (divided_code frame left right), length_divided frame left right, operand_small frame left, operand_small frame right, words_ordinary last, length_keep frame destination, keep_few frame destination, sum_by-cons words_of test (product ∷ jump ∷ ordinary last), sum_by-cons words_of product (jump ∷ ordinary last), sum_by-cons words_of jump (ordinary last))

  plan_words : (frame : Frame) (plan : Plan) (destination : ℕ) → all_words (ordinary (plan_code frame plan destination)) ≤ 8
  plan_words frame plan destination = omega (arith, words_ordinary (plan_code frame plan destination), length_plan frame plan destination, plan_small frame plan destination)

  words_either : (b : Bool) (divided planned : List Line) → all_words divided ≤ 15 → all_words planned ≤ 8 → all_words (if b then divided else planned) ≤ 15
  words_either true divided planned few small = few
  words_either false divided planned few small = omega (arith, small)

  tested_words : (frame : Frame) (here : ℕ) (operator : BinaryOperator) (destination : ℕ) (left right : Operand) → all_words (operator_code frame here operator destination left right) ≤ 15
  tested_words frame here operator destination left right =
      words_either (is_tested operator right) (divide_code frame here (part_of operator) destination left right) (ordinary (plan_code frame (binary_plan operator left right) destination))
      (divide_words frame here (part_of operator) destination left right) (plan_words frame (binary_plan operator left right) destination)

  -- The code of each operator takes at most as many words as a division with a test of its divisor.
  operator_words : (frame : Frame) (here : ℕ) (operator : BinaryOperator) (destination : ℕ) (left right : Operand) → all_words (operator_code frame here operator destination left right) ≤ operator_size operator
  operator_words frame here binary.Divide destination left right = omega (arith, tested_words frame here binary.Divide destination left right)
  operator_words frame here binary.Remainder destination left right = omega (arith, tested_words frame here binary.Remainder destination left right)
  operator_words frame here operator destination left right = omega (arith, plan_words frame (binary_plan operator left right) destination)

  test_words : (frame : Frame) (test : Test) (first : Option Instr) (label : ℕ) → all_words (branch_code frame test first label) ≤ 11
  test_words frame test first label =
      let is : List Instr = with_hoisted (test_code frame test) first in
      omega (arith, sum_by-append words_of (ordinary is) (lines.Branch (condition_of frame test) (after_hoisted first label) ∷ []), words_ordinary is, length_hoisted (test_code frame test) first, hoisted_few first, length_test frame test, test_small frame test)

  ending_words : (b : Bool) (frame : Frame) (here value : ℕ) → all_words (ending_code b frame here value) ≤ 7
  ending_words true frame here value = omega arith
  ending_words false frame here value = omega arith

  load_words_few : (function : ℕ) (op : MemoryOp) (destination : ℕ) (address : Operand) (offset : ℕ) → all_words (load_at (frame_at frames function) op destination address offset) + 0 ≤ 10
  load_words_few function op destination address offset =
      let is : List Instr = address_code (frame_at frames function) address offset in
      let last : List Instr = at_address (frame_at frames function) op (made_in (frame_at frames function) destination) address offset ∷ keep_code (frame_at frames function) destination in
      omega (arith, words_ordinary (is ++ last), length-append is last, length_address (frame_at frames function) address offset, address_small (frame_at frames function) address offset, length_keep (frame_at frames function) destination, keep_few (frame_at frames function) destination)

  store_words_few : (function : ℕ) (op : MemoryOp) (address : Operand) (offset : ℕ) (source : Operand) → all_words (store_at (frame_at frames function) op address offset source) + 0 ≤ 10
  store_words_few function op address offset source =
      let is : List Instr = address_code (frame_at frames function) address offset in
      let js : List Instr = operand_code (frame_at frames function) SECOND source in
      let last : List Instr = at_address (frame_at frames function) op (operand_register (frame_at frames function) SECOND source) address offset ∷ [] in
      omega (arith, words_ordinary (is ++ (js ++ last)), length-append is (js ++ last), length-append js last, length_address (frame_at frames function) address offset, address_small (frame_at frames function) address offset, length_operand (frame_at frames function) SECOND source, operand_small (frame_at frames function) source)

  restoring_words : (function : ℕ) → all_words (ordinary (restoring_code (frame_at frames function))) ≤ 1
  restoring_words function = go (frame_at frames function).saves
    where
      go : (b : Bool) → all_words (ordinary (if b then load RETURN_ADDRESS (4 * (frame_at frames function).return_address) ∷ [] else [])) ≤ 1
      go true = omega arith
      go false = omega arith

  returning_words : (function here value : ℕ) → all_words (returning_code (function == program.main) (frame_at frames function) here value (routine_at program function).results) + 0 + 0 + 14 ≤ 36
  returning_words function here value =
      let frame : Frame = frame_at frames function in
      let there : ℕ = here + way_count frame in
      let ends : List Line = ending_code (function == program.main) frame there value in
      let loads : List Line = ordinary (loaded frame value (routine_at program function).results) in
      let whole = sum_by-append words_of (ordinary (restoring_code frame)) (ends ++ loads ++ lines.Return ∷ []) in
      let all = sum_by-append words_of (ends ++ loads) (lines.Return ∷ []) in
      let front = sum_by-append words_of ends loads in
      omega (arith, whole, all, front, restoring_words function, words_ordinary (loaded frame value (routine_at program function).results), length_loaded frame value (routine_at program function).results (few_results function), ending_words (function == program.main) frame there value, few_results function, (reads_few function).1)

  body_words : (function here : ℕ) (i : Instruction) → all_words (body program frames function here i) + all_words (following program frames function i) + (if loses i then 1 else 0) + (if returns i then 14 else 0) ≤ instruction_size i
  body_words function here (plain.Move destination source) =
      omega (arith, words_ordinary (move_to (value_register (frame_at frames function) destination) (frame_at frames function) destination source), length_move (frame_at frames function) destination source, move_small (frame_at frames function) destination source)
  body_words function here (plain.Unary operator destination operand) =
      omega (arith, words_ordinary (plan_code (frame_at frames function) (unary_plan operator operand) destination), length_plan (frame_at frames function) (unary_plan operator operand) destination, unary_small (frame_at frames function) operator operand destination)
  body_words function here (plain.Binary operator destination left right) = omega (arith, operator_words (frame_at frames function) here operator destination left right)
  body_words function here (plain.Jump target) = omega arith
  body_words function here (plain.Branch comparison left right target) = omega (arith, test_words (frame_at frames function) (test_of comparison left right) (hoisted (frame_at frames function) (routine_at program function).code (test_of comparison left right) target) (instruction_line program frames function target))
  body_words function here (plain.Call callee arguments count result) =
      let spilled : ℕ = here + spills_count (frame_at frames function) (coming (frame_at frames callee)) arguments 0 count in
      let calling : List Line = calling_code (frame_at frames function) (coming (frame_at frames callee)) spilled (function_line program frames callee) arguments count in
      let front = sum_by-append words_of (ordinary (spills (frame_at frames function) (coming (frame_at frames callee)) arguments 0 count)) calling in
      let spill_words = words_ordinary (spills (frame_at frames function) (coming (frame_at frames callee)) arguments 0 count) in
      let first : List Line = lines.Branch (conditions.Registers branch.NotEqual (register_of FRAME) (register_of LOWEST)) (spilled + 3) ∷ ordinary (small 2 11 ∷ syscall ∷ push_frame ∷ []) in
      let passed = words_ordinary (copies (frame_at frames function) (coming (frame_at frames callee)) arguments 0 count) in
      let long = length_copies (frame_at frames function) (coming (frame_at frames callee)) arguments 0 count in
      let a = sum_by-append words_of (lines.Branch (conditions.Registers branch.NotEqual (register_of FRAME) (register_of LOWEST)) (spilled + 3) ∷ ordinary (small 2 11 ∷ syscall ∷ push_frame ∷ [])) (ordinary (copies (frame_at frames function) (coming (frame_at frames callee)) arguments 0 count) ++ lines.Call (function_line program frames callee) ∷ []) in
      let b = sum_by-append words_of (ordinary (copies (frame_at frames function) (coming (frame_at frames callee)) arguments 0 count)) (lines.Call (function_line program frames callee) ∷ []) in
      let kept = words_ordinary (bring_all true (frame_at frames function) result (result_registers (routine_at program callee).results) ++ reloads (frame_at frames function)) in
      let both = length-append (bring_all true (frame_at frames function) result (result_registers (routine_at program callee).results)) (reloads (frame_at frames function)) in
      let stores = length_results (frame_at frames function) result (result_registers (routine_at program callee).results) in
      let registers = length_registers (routine_at program callee).results (few_results callee) in
      omega (arith, front, spill_words, length_spills (frame_at frames function) (coming (frame_at frames callee)) arguments 0 count, spills_few (frame_at frames function) (coming (frame_at frames callee)) arguments 0 count, copies_few (frame_at frames function) (coming (frame_at frames callee)) arguments 0 count, passed, long, a, b, kept, both, stores, registers, few_results callee, length_reloads (frame_at frames function), reads_few function)
  body_words function here (plain.Return value) = returning_words function here value
  body_words function here (plain.Finish value) = returning_words function here value
  body_words function here (plain.ReadByte destination) =
      omega (arith, words_ordinary (small 2 1 ∷ syscall ∷ give_code (frame_at frames function) 2 destination), length_give (frame_at frames function) 2 destination, give_small (frame_at frames function) destination)
  body_words function here (plain.WriteByte source) =
      omega (arith, words_ordinary (load_code (frame_at frames function) ARGUMENT source ++ small SERVICE PUT_BYTE ∷ syscall ∷ []), length-append (load_code (frame_at frames function) ARGUMENT source) (small SERVICE PUT_BYTE ∷ syscall ∷ []), length_load (frame_at frames function) ARGUMENT source, load_small source)
  body_words function here (plain.AddressOf destination slot count) =
      omega (arith, words_ordinary (add_immediate (made_in (frame_at frames function) destination) FRAME (slot_offset (frame_at frames function) slot) ∷ keep_code (frame_at frames function) destination), length_keep (frame_at frames function) destination, keep_few (frame_at frames function) destination)
  body_words function here (plain.LoadGlobal destination global) =
      let is : List Instr = global_code LoadWord (made_in (frame_at frames function) destination) global in
      omega (arith, words_ordinary (is ++ keep_code (frame_at frames function) destination), length-append is (keep_code (frame_at frames function) destination), length_global LoadWord (made_in (frame_at frames function) destination) global, reach_few (frame_at frames function) global, length_keep (frame_at frames function) destination, keep_few (frame_at frames function) destination)
  body_words function here (plain.StoreGlobal global source) =
      let last : List Instr = global_code StoreWord (operand_register (frame_at frames function) FIRST source) global in
      omega (arith, words_ordinary (operand_code (frame_at frames function) FIRST source ++ last), length-append (operand_code (frame_at frames function) FIRST source) last, length_operand (frame_at frames function) FIRST source, operand_small (frame_at frames function) source, length_global StoreWord (operand_register (frame_at frames function) FIRST source) global, reach_few (frame_at frames function) global)
  body_words function here (plain.MoveWords destination source count) =
      omega (arith, words_ordinary (moved_code (frame_at frames function) destination source count), length_moved (frame_at frames function) destination source count, move_words_small (frame_at frames function) destination source count)
  body_words function here (plain.Load destination address offset) = omega (arith, load_words_few function LoadWord destination address offset)
  body_words function here (plain.Store address offset source) = omega (arith, store_words_few function StoreWord address offset source)
  body_words function here (plain.LoadByte destination address offset) = omega (arith, load_words_few function LoadByte destination address offset)
  body_words function here (plain.StoreByte address offset source) = omega (arith, store_words_few function StoreByte address offset source)
  body_words function here (plain.Ask request) =
      let is : List Instr = argument_code (frame_at frames function) ARGUMENT (first_operand request) in
      let js : List Instr = argument_code (frame_at frames function) SECOND_ARGUMENT (second_operand request) in
      let last : List Instr = small SERVICE (service_number request) ∷ syscall ∷ (regions_code request ++ answer_code (frame_at frames function) request) in
      omega (arith, words_ordinary (is ++ (js ++ last)), length-append is (js ++ last), length-append js last, length_argument (frame_at frames function) ARGUMENT (first_operand request), length_argument (frame_at frames function) SECOND_ARGUMENT (second_operand request), length-append (regions_code request) (answer_code (frame_at frames function) request), length_regions request, length_answer (frame_at frames function) request, regions_small request, argument_small (second_operand request), gives_small (frame_at frames function) (destination_of request) (answer_count request))
  body_words function here (plain.CountLexical destination) =
      omega (arith, words_ordinary (give_code (frame_at frames function) REGIONS destination), length_give (frame_at frames function) REGIONS destination, give_small (frame_at frames function) destination)
  body_words function here (plain.Try first handler) =
      let last : List Line = lines.Jump (instruction_line program frames function handler) ∷ ordinary (opened_code (frame_at frames function) first) in
      let rest : List Line = ordinary (caught_code (frame_at frames function) first) ++ last in
      let call : Line = lines.Call (here + 6 + reload_count (frame_at frames function)) in
      let length_caught : length (caught_code (frame_at frames function) first) ≡ 2 + reload_count (frame_at frames function) =
      (let e : suc (suc (length (reloads (frame_at frames function)))) ≡ 2 + reload_count (frame_at frames function) = omega (arith, length_reloads (frame_at frames function)) in e) in
      omega (
        arith,
        sum_by-append words_of (ordinary (recorded_code (frame_at frames function) first)) (call ∷ rest),
        sum_by-cons words_of call rest,
        sum_by-append words_of (ordinary (caught_code (frame_at frames function) first)) last,
        words_ordinary (caught_code (frame_at frames function) first),
        length_caught,
        (reads_few function).0,
      )
  body_words function here (plain.Leave first) = omega arith
  body_words function here (plain.Throw tag value) =
      let is : List Instr = load_code (frame_at frames function) ARGUMENT tag ++ load_code (frame_at frames function) SECOND_ARGUMENT value in
      let last : List Line = lines.Branch (conditions.Registers branch.NotEqual (register_of HANDLERS) (register_of ZERO)) (here + (load_count tag + load_count value) + 3) ∷ ordinary (small SERVICE END_UNCAUGHT ∷ syscall ∷ []) ++ (ordinary unwound_code ++ lines.Return ∷ []) in
      omega (arith, sum_by-append words_of (ordinary is) last, words_ordinary is, length-append (load_code (frame_at frames function) ARGUMENT tag) (load_code (frame_at frames function) SECOND_ARGUMENT value), length_load (frame_at frames function) ARGUMENT tag, length_load (frame_at frames function) SECOND_ARGUMENT value, load_small tag, load_small value)
  body_words function here (plain.Uncaught tag value) =
      let last : List Instr = small SERVICE END_UNCAUGHT ∷ syscall ∷ [] in
      let loads : List Instr = load_code (frame_at frames function) SECOND_ARGUMENT value ++ last in
      omega (arith, words_ordinary (word_code ARGUMENT tag ++ loads), length-append (word_code ARGUMENT tag) loads, length_word ARGUMENT tag, length-append (load_code (frame_at frames function) SECOND_ARGUMENT value) last, length_load (frame_at frames function) SECOND_ARGUMENT value, load_small value, word_small tag)
  body_words function here (plain.Enter callee) = omega arith

  place_words : (function index here : ℕ) (i : Instruction) → all_words (place_lines program frames function index here i) + all_words (following program frames function i) + (if loses i then 1 else 0) + (if returns i then 14 else 0) ≤ instruction_size i
  place_words function index here i = omega (arith, body_words function here i, go (is_idle (frame_at frames function) index i))
    where
      go : (b : Bool) → all_words (if b then [] else body program frames function here i) ≤ all_words (body program frames function here i)
      go true = omega arith
      go false = omega arith

  -- A function's code, with the words that save registers, takes at most as many machine words as the size computed for its plain code.
  pub code_words : (function index here : ℕ) (code : List Instruction) → all_words (code_lines program frames function index here code) + losing code + returning code ≤ sum_by instruction_size code
  code_words function index here [] = omega arith
  code_words function index here (i ∷ code) =
      omega (
        arith,
        place_words function index here i,
        code_words function (suc index) (here + count_of program frames function index i) code,
        sum_by-append words_of (place_lines program frames function index here i ++ following program frames function i) (code_lines program frames function (suc index) (here + count_of program frames function index i) code),
        sum_by-append words_of (place_lines program frames function index here i) (following program frames function i),
        sum_by-cons instruction_size i code,
        losing_next i code,
        returning_next i code,
      )

  way_words : (function : ℕ) (code : List Instruction) → (frame_at frames function).saves ≡ loses_any code → all_words (ordinary (way_code (frame_at frames function))) ≡ losing code
  way_words function code saved = go (frame_at frames function).saves saved
    where
      go : (b : Bool) → b ≡ loses_any code → all_words (ordinary (if b then store RETURN_ADDRESS (4 * (frame_at frames function).return_address) ∷ [] else [])) ≡ (if loses_any code then 1 else 0)
      go true is = ap (λ (x : Bool). if x then 1 else 0) is
      go false is = ap (λ (x : Bool). if x then 1 else 0) is

  pub routine_words : (function here : ℕ) (r : Routine) → IsSaving (frame_at frames function) r.code → all_words (routine_lines program frames function here r) ≤ size r
  routine_words function here r saved =
      let frame : Frame = frame_at frames function in
      let saves : List Instr = saves_from frame.first_saved 0 frame.saved in
      omega (
        arith,
        way_words function r.code saved.0,
        length_saves frame.first_saved 0 frame.saved,
        saved.1,
        words_ordinary (saving_code frame),
        words_ordinary (way_code frame),
        words_ordinary saves,
        words_ordinary (arrivals frame),
        length_arrivals frame,
        length-append (way_code frame) (saves ++ arrivals frame),
        length-append saves (arrivals frame),
        code_words function 0 (here + saving_count frame) r.code,
        sum_by-append words_of (ordinary (saving_code frame)) (code_lines program frames function 0 (here + saving_count frame) r.code),
      )

  pub functions_words : (function here : ℕ) (routines : List Routine) → AreSaved frames function routines → all_words (function_lines program frames function here routines) ≤ sum_by size routines
  functions_words function here [] saved = omega arith
  functions_words function here (r ∷ routines) saved =
      omega (
        arith,
        routine_words function here r (saved_first frames function r routines saved),
        functions_words (suc function) (here + function_count program frames function r) routines (saved_next frames function r routines saved),
        sum_by-append words_of (routine_lines program frames function here r) (function_lines program frames (suc function) (here + function_count program frames function r) routines),
        sum_by-cons size r routines,
      )
