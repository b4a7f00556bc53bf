-- The emitted code as a whole: the lengths of the start code and of each function's code, and the line at which each of them begins.
use Rattle.std.proofs.Common.{◌≡◌, ℕ, zero, suc, ◌+◌, ◌<◌, ◌≤◌, Bool, true, false, List, [], ◌∷◌, ◌++◌, length, take, Option, Some, None, slice_get, refl, subst, ◌∙◌, arith, length-append, append_assoc, ◌*◌}
use Rattle.std.specs.Prelude.{◌==◌, if◌then◌else◌, slice_index_or}
use Rattle.cyc_plain.specs.declared.instruction.Instruction.{Instruction}
use Rattle.cyc_plain.specs.declared.instruction.Instruction.TheVariants as plain
use Rattle.cyc_plain.specs.declared.instruction.BinaryOperator.{BinaryOperator}
use Rattle.cyc_plain.specs.declared.instruction.Operand.{Operand}
use Rattle.cyc_plain.specs.inside.Requests.{first_operand, second_operand}
use Rattle.cyc_isa.specs.Decoding.{register_of}
use Rattle.cyc_isa.specs.declared.instr.Instr.{Instr}
use Rattle.cyc_isa.specs.declared.instr.BranchOp.TheVariants as branch
use Rattle.cyc_isa.specs.declared.instr.MemoryOp.{MemoryOp}
use Rattle.cyc_isa.specs.declared.instr.MemoryOp.TheVariants.{LoadWord, StoreWord, LoadByte, StoreByte}
use Rattle.cyc_isa.specs.declared.instr.MoveFromOp.{MoveFromOp}
use Rattle.cyc_machine_model.specs.declared.constants.TheConstants.{ARGUMENT, END_UNCAUGHT, PUT_BYTE, RETURN_ADDRESS, SECOND_ARGUMENT, SERVICE}
use Rattle.cyc_plain.specs.inside.Program.{Routine, Program, no_routine, routine_at}
use Rattle.cyc_plain.specs.inside.Step.{instruction_at}
use Rattle.cyc_plain.proofs.Steps.{function_known}
use Rattle.cyc_frame.specs.inside.Layout.{frame_at}
use Rattle.cyc_frame.specs.inside.Frame.{Frame}
use Rattle.cyc_select.specs.declared.constants.TheConstants.{FIRST, SECOND, THIRD, START_LINES, HANDLERS, REGIONS, ZERO}
use Rattle.cyc_select.specs.declared.code.Line.{Line}
use Rattle.cyc_select.specs.declared.code.Condition.TheVariants as conditions
use Rattle.cyc_select.specs.declared.code.Line.TheVariants as lines
use Rattle.cyc_select.specs.declared.plan.Plan.{Plan}
use Rattle.cyc_select.specs.declared.plan.Test.{Test}
use Rattle.cyc_select.specs.inside.Labelled.{Labelled}
use Rattle.cyc_select.specs.inside.Plans.{unary_plan, binary_plan, test_of}
use Rattle.cyc_select.specs.inside.Instructions.{small, syscall, load, store}
use Rattle.cyc_select.specs.inside.Slots.{arrivals, coming, value_register, keep_code, give_code, reloads, made_in, bring_all, result_registers, global_code, saves, way_code, saving_code, restoring_code, way_count, saving_count}
use Rattle.cyc_select.specs.inside.Operands.{keep_count, give_count, reload_count, address_code, at_address, word_code, load_code, load_count, operand_code, operand_register, plan_code, plan_count, test_code, condition_of, divide_count, is_tested, operator_count, address_count, operand_count}
use Rattle.cyc_select.specs.inside.Passing.{copies_count, copies, spills, spills_count}
use Rattle.cyc_select.specs.inside.Hoisting.{hoisted, with_hoisted, after_hoisted, is_idle}
use Rattle.cyc_select.specs.inside.Counts.{ending_count, body_count, after_count, place_count, count_of, code_count, function_count, functions_count, function_line, instruction_line}
use Rattle.cyc_select.specs.inside.Selection.{product_code, quotient_code, move_to, moved_code, opened_code, ordinary, argument_code, service_number, answer_code, unwound_code, divided_code, divide_code, part_of, ending_code, operator_code, body, following, place_lines, code_lines, function_lines}
use Rattle.cyc_select.specs.inside.Selection.{start_lines, select_of, regions_code, load_at, store_at, calling_code, returning_code, routine_lines}
use Rattle.cyc_select.proofs.steps.Calls.{length_ordinary}
use Rattle.cyc_select.proofs.emission.Counts.{length_keep, length_give, length_move, length_moved, length_spills, length_copies, length_argument, length_answer, length_regions, length_results}
use Rattle.cyc_select.proofs.emission.Counts.{length_registers, length_word, length_load, length_operand, length_address, length_plan, length_test, length_hoisted, length_divided, length_global}
use Rattle.cyc_select.proofs.steps.Preserving.{length_saves}
use Rattle.cyc_select.proofs.steps.Returns.{loaded, length_loaded}
use Rattle.cyc_select.proofs.relation.Values.{length_reloads}
use Rattle.cyc_select.proofs.relation.Arriving.{length_arrivals}
use Rattle.cyc_select.proofs.effects.Sequences.{Stands, stands_front, stands_back}

slice_get-seam : (front : List Line) (l : Line) (rest : List Line) → slice_get (front ++ l ∷ rest) (length front) ≡ Some l
slice_get-seam [] l rest = refl
slice_get-seam (x ∷ front) l rest = slice_get-seam front l rest

module _ (program : Program) (frames : List Frame) (few_results : (function : ℕ) → (routine_at program function).results ≤ 3) where
  length_ending : (b : Bool) (frame : Frame) (here value : ℕ) → length (ending_code b frame here value) ≡ (if b then 4 else 0)
  length_ending true frame here value = refl
  length_ending false frame here value = refl

  length_divide : (frame : Frame) (here : ℕ) (which : MoveFromOp) (destination : ℕ) (left right : Operand) → length (divide_code frame here which destination left right) ≡ divide_count frame destination left right
  length_divide frame here which destination left right =
      let following : List Line = lines.Branch (conditions.Registers branch.NotEqual (register_of (operand_register frame SECOND right)) (register_of THIRD)) (here + (operand_count frame left + operand_count frame right) + 4) ∷ lines.Ordinary (product_code which (operand_register frame FIRST left)) ∷ lines.Jump (here + (operand_count frame left + operand_count frame right) + 5) ∷ ordinary (quotient_code frame which destination (operand_register frame FIRST left) (operand_register frame SECOND right)) in
      omega (arith, length-append (ordinary (divided_code frame left right)) following, length_ordinary (divided_code frame left right), length_divided frame left right, length_ordinary (keep_code frame destination), length_keep frame destination)

  length_planned : (frame : Frame) (plan : Plan) (destination : ℕ) → length (ordinary (plan_code frame plan destination)) ≡ plan_count frame plan destination
  length_planned frame plan destination = length_ordinary (plan_code frame plan destination) ∙ length_plan frame plan destination

  length_either : (b : Bool) (divided planned : List Line) (m n : ℕ) → length divided ≡ m → length planned ≡ n → length (if b then divided else planned) ≡ (if b then m else n)
  length_either true divided planned m n first second = first
  length_either false divided planned m n first second = second

  length_operator : (frame : Frame) (here : ℕ) (operator : BinaryOperator) (destination : ℕ) (left right : Operand) → length (operator_code frame here operator destination left right) ≡ operator_count frame operator destination left right
  length_operator frame here operator destination left right =
      length_either (is_tested operator right) (divide_code frame here (part_of operator) destination left right) (ordinary (plan_code frame (binary_plan operator left right) destination)) _ _
      (length_divide frame here (part_of operator) destination left right) (length_planned frame (binary_plan operator left right) destination)

  length_load_at : (function : ℕ) (op : MemoryOp) (destination : ℕ) (address : Operand) (offset : ℕ) → length (load_at (frame_at frames function) op destination address offset) ≡ address_count (frame_at frames function) address offset + 1 + keep_count (frame_at frames function) destination
  length_load_at function op destination address offset =
      let is : List Instr = address_code (frame_at frames function) address offset in
      let last : List Instr = at_address (frame_at frames function) op (made_in (frame_at frames function) destination) address offset ∷ keep_code (frame_at frames function) destination in
      omega (arith, length_ordinary (is ++ last), length-append is last, length_address (frame_at frames function) address offset, length_keep (frame_at frames function) destination)

  length_store_at : (function : ℕ) (op : MemoryOp) (address : Operand) (offset : ℕ) (source : Operand) → length (store_at (frame_at frames function) op address offset source) ≡ address_count (frame_at frames function) address offset + operand_count (frame_at frames function) source + 1
  length_store_at function op address offset source =
      let is : List Instr = address_code (frame_at frames function) address offset in
      let js : List Instr = operand_code (frame_at frames function) SECOND source in
      let last : List Instr = at_address (frame_at frames function) op (operand_register (frame_at frames function) SECOND source) address offset ∷ [] in
      omega (arith, length_ordinary (is ++ (js ++ last)), length-append is (js ++ last), length-append js last, length_address (frame_at frames function) address offset, length_operand (frame_at frames function) SECOND source)

  length_restoring : (function : ℕ) → length (ordinary (restoring_code (frame_at frames function))) ≡ way_count (frame_at frames function)
  length_restoring function = go (frame_at frames function).saves
    where
      go : (b : Bool) → length (ordinary (if b then load RETURN_ADDRESS (4 * (frame_at frames function).return_address) ∷ [] else [])) ≡ (if b then 1 else 0)
      go true = refl
      go false = refl

  length_returning : (function here value : ℕ) → length (returning_code (function == program.main) (frame_at frames function) here value (routine_at program function).results)
      ≡ way_count (frame_at frames function) + ending_count program function + ((routine_at program function).results + (frame_at frames function).saved + 2)
  length_returning function here value =
      let frame : Frame = frame_at frames function in
      let there : ℕ = here + way_count frame in
      let ends : List Line = ending_code (function == program.main) frame there value in
      let loads : List Line = ordinary (loaded frame value (routine_at program function).results) in
      let front = length-append ends loads in
      let all = length-append (ends ++ loads) (lines.Return ∷ []) in
      let whole = length-append (ordinary (restoring_code frame)) (ends ++ loads ++ lines.Return ∷ []) in
      omega (arith, whole, front, all, length_restoring function, length_ending (function == program.main) frame there value, length_ordinary (loaded frame value (routine_at program function).results), length_loaded frame value (routine_at program function).results (few_results function))

  pub length_body : (function here : ℕ) (i : Instruction) → length (body program frames function here i) ≡ body_count program frames function i
  length_body function here (plain.Move destination source) =
      length_ordinary (move_to (value_register (frame_at frames function) destination) (frame_at frames function) destination source) ∙ length_move (frame_at frames function) destination source
  length_body function here (plain.Unary operator destination operand) = length_planned (frame_at frames function) (unary_plan operator operand) destination
  length_body function here (plain.Binary operator destination left right) = length_operator (frame_at frames function) here operator destination left right
  length_body function here (plain.Jump target) = refl
  length_body function here (plain.Branch comparison left right target) =
      let test : Test = test_of comparison left right in
      let first : Option Instr = hoisted (frame_at frames function) (routine_at program function).code (test_of comparison left right) target in
      let is : List Instr = with_hoisted (test_code (frame_at frames function) test) first in
      let last : List Line = lines.Branch (condition_of (frame_at frames function) test) (after_hoisted first (instruction_line program frames function target)) ∷ [] in
      omega (arith, length-append (ordinary is) last, length_ordinary is, length_hoisted (test_code (frame_at frames function) test) first, length_test (frame_at frames function) test)
  length_body function here (plain.Call callee arguments count result) =
      let spilled : ℕ = here + spills_count (frame_at frames function) (coming (frame_at frames callee)) arguments 0 count in
      let calling : List Line = calling_code (frame_at frames function) (coming (frame_at frames callee)) spilled (function_line program frames callee) arguments count in
      let whole = length-append (ordinary (copies (frame_at frames function) (coming (frame_at frames callee)) arguments 0 count)) (lines.Call (function_line program frames callee) ∷ []) in
      let parts = length_ordinary (copies (frame_at frames function) (coming (frame_at frames callee)) arguments 0 count) in
      let copied = length_copies (frame_at frames function) (coming (frame_at frames callee)) arguments 0 count in
      let e : suc (suc (suc (suc (length (ordinary (copies (frame_at frames function) (coming (frame_at frames callee)) arguments 0 count) ++ lines.Call (function_line program frames callee) ∷ []))))) ≡ 5 + copies_count (frame_at frames function) (coming (frame_at frames callee)) arguments 0 count = omega (arith, whole, parts, copied) in
      let called : length calling ≡ 5 + copies_count (frame_at frames function) (coming (frame_at frames callee)) arguments 0 count = e in
      omega (arith, length-append (ordinary (spills (frame_at frames function) (coming (frame_at frames callee)) arguments 0 count)) calling, length_ordinary (spills (frame_at frames function) (coming (frame_at frames callee)) arguments 0 count), length_spills (frame_at frames function) (coming (frame_at frames callee)) arguments 0 count, called)
  length_body function here (plain.Return value) = length_returning function here value
  length_body function here (plain.Finish value) = length_returning function here value
  length_body function here (plain.ReadByte destination) =
      let e : suc (suc (length (ordinary (give_code (frame_at frames function) 2 destination)))) ≡ 2 + give_count (frame_at frames function) destination = omega (arith, length_ordinary (give_code (frame_at frames function) 2 destination), length_give (frame_at frames function) 2 destination) in
      e
  length_body function here (plain.WriteByte source) =
      let last : List Instr = small SERVICE PUT_BYTE ∷ syscall ∷ [] in
      omega (arith, length_ordinary (load_code (frame_at frames function) ARGUMENT source ++ last), length-append (load_code (frame_at frames function) ARGUMENT source) last, length_load (frame_at frames function) ARGUMENT source)
  length_body function here (plain.AddressOf destination slot count) =
      let e : suc (length (ordinary (keep_code (frame_at frames function) destination))) ≡ 1 + keep_count (frame_at frames function) destination = omega (arith, length_ordinary (keep_code (frame_at frames function) destination), length_keep (frame_at frames function) destination) in
      e
  length_body function here (plain.LoadGlobal destination global) =
      let is : List Instr = global_code LoadWord (made_in (frame_at frames function) destination) global in
      omega (arith, length_ordinary (is ++ keep_code (frame_at frames function) destination), length-append is (keep_code (frame_at frames function) destination), length_global LoadWord (made_in (frame_at frames function) destination) global, length_keep (frame_at frames function) destination)
  length_body function here (plain.StoreGlobal global source) =
      let last : List Instr = global_code StoreWord (operand_register (frame_at frames function) FIRST source) global in
      omega (arith, length_ordinary (operand_code (frame_at frames function) FIRST source ++ last), length-append (operand_code (frame_at frames function) FIRST source) last, length_operand (frame_at frames function) FIRST source, length_global StoreWord (operand_register (frame_at frames function) FIRST source) global)
  length_body function here (plain.MoveWords destination source count) =
      length_ordinary (moved_code (frame_at frames function) destination source count) ∙ length_moved (frame_at frames function) destination source count
  length_body function here (plain.Load destination address offset) = length_load_at function LoadWord destination address offset
  length_body function here (plain.Store address offset source) = length_store_at function StoreWord address offset source
  length_body function here (plain.LoadByte destination address offset) = length_load_at function LoadByte destination address offset
  length_body function here (plain.StoreByte address offset source) = length_store_at function StoreByte address offset source
  length_body function here (plain.Ask request) =
      let is : List Instr = argument_code (frame_at frames function) ARGUMENT (first_operand request) in
      let js : List Instr = argument_code (frame_at frames function) SECOND_ARGUMENT (second_operand request) in
      let last : List Instr = small SERVICE (service_number request) ∷ syscall ∷ (regions_code request ++ answer_code (frame_at frames function) request) in
      omega (arith, length_ordinary (is ++ (js ++ last)), length-append is (js ++ last), length-append js last, length_argument (frame_at frames function) ARGUMENT (first_operand request), length_argument (frame_at frames function) SECOND_ARGUMENT (second_operand request), length-append (regions_code request) (answer_code (frame_at frames function) request), length_regions request, length_answer (frame_at frames function) request)
  length_body function here (plain.CountLexical destination) =
      length_ordinary (give_code (frame_at frames function) REGIONS destination) ∙ length_give (frame_at frames function) REGIONS destination
  length_body function here (plain.Try first handler) =
      let last : List Line = lines.Jump (instruction_line program frames function handler) ∷ ordinary (opened_code (frame_at frames function) first) in
      let long = length-append (ordinary (reloads (frame_at frames function))) last in
      let e : suc (suc (suc (suc (suc (length (ordinary (reloads (frame_at frames function)) ++ last)))))) ≡ 8 + reload_count (frame_at frames function)
      = omega (arith, long, length_ordinary (reloads (frame_at frames function)), length_reloads (frame_at frames function)) in
      e
  length_body function here (plain.Leave first) = refl
  length_body function here (plain.Throw tag value) =
      let is : List Instr = load_code (frame_at frames function) ARGUMENT tag ++ load_code (frame_at frames function) SECOND_ARGUMENT value in
      let last : List Line = lines.Branch (conditions.Registers branch.NotEqual (register_of HANDLERS) (register_of ZERO)) (here + (load_count tag + load_count value) + 3) ∷ ordinary (small SERVICE END_UNCAUGHT ∷ syscall ∷ []) ++ (ordinary unwound_code ++ lines.Return ∷ []) in
      omega (arith, length-append (ordinary is) last, length_ordinary is, length-append (load_code (frame_at frames function) ARGUMENT tag) (load_code (frame_at frames function) SECOND_ARGUMENT value), length_load (frame_at frames function) ARGUMENT tag, length_load (frame_at frames function) SECOND_ARGUMENT value)
  length_body function here (plain.Uncaught tag value) =
      let last : List Instr = small SERVICE END_UNCAUGHT ∷ syscall ∷ [] in
      let loads : List Instr = load_code (frame_at frames function) SECOND_ARGUMENT value ++ last in
      omega (arith, length_ordinary (word_code ARGUMENT tag ++ loads), length-append (word_code ARGUMENT tag) loads, length_word ARGUMENT tag, length-append (load_code (frame_at frames function) SECOND_ARGUMENT value) last, length_load (frame_at frames function) SECOND_ARGUMENT value)
  length_body function here (plain.Enter callee) = refl

  pub length_after : (function : ℕ) (i : Instruction) → length (following program frames function i) ≡ after_count program frames function i
  length_after function (plain.Call callee arguments count result) =
      let stores : List Instr = bring_all true (frame_at frames function) result (result_registers (routine_at program callee).results) in
      let a = length_ordinary (stores ++ reloads (frame_at frames function)) in
      let b = length_results (frame_at frames function) result (result_registers (routine_at program callee).results) in
      let d = length_registers (routine_at program callee).results (few_results callee) in
      omega (arith, a, b, d, length-append stores (reloads (frame_at frames function)), length_reloads (frame_at frames function))
  length_after function (plain.Move destination source) = refl
  length_after function (plain.Unary operator destination operand) = refl
  length_after function (plain.Binary operator destination left right) = refl
  length_after function (plain.Jump target) = refl
  length_after function (plain.Branch comparison left right target) = refl
  length_after function (plain.Return value) = refl
  length_after function (plain.ReadByte destination) = refl
  length_after function (plain.WriteByte source) = refl
  length_after function (plain.AddressOf destination slot count) = refl
  length_after function (plain.LoadGlobal destination global) = refl
  length_after function (plain.StoreGlobal global source) = refl
  length_after function (plain.MoveWords destination source count) = refl
  length_after function (plain.Load destination address offset) = refl
  length_after function (plain.Store address offset source) = refl
  length_after function (plain.LoadByte destination address offset) = refl
  length_after function (plain.StoreByte address offset source) = refl
  length_after function (plain.Ask request) = refl
  length_after function (plain.CountLexical destination) = refl
  length_after function (plain.Try first handler) = refl
  length_after function (plain.Leave first) = refl
  length_after function (plain.Throw tag value) = refl
  length_after function (plain.Finish value) = refl
  length_after function (plain.Uncaught tag value) = refl
  length_after function (plain.Enter callee) = refl

  pub length_place : (function index here : ℕ) (i : Instruction) → length (place_lines program frames function index here i) ≡ place_count program frames function index i
  length_place function index here i = go (is_idle (frame_at frames function) index i)
    where
      go : (b : Bool) → length (if b then [] else body program frames function here i) ≡ (if b then 0 else body_count program frames function i)
      go true = refl
      go false = length_body function here i

  length_both : (function index here : ℕ) (i : Instruction) → length (place_lines program frames function index here i ++ following program frames function i) ≡ count_of program frames function index i
  length_both function index here i =
      omega (arith, length-append (place_lines program frames function index here i) (following program frames function i), length_place function index here i, length_after function i)

  pub length_code : (function index here : ℕ) (code : List Instruction) → length (code_lines program frames function index here code) ≡ code_count program frames function index code
  length_code function index here [] = refl
  length_code function index here (i ∷ code) =
      omega (
        arith,
        length-append (place_lines program frames function index here i ++ following program frames function i) (code_lines program frames function (suc index) (here + count_of program frames function index i) code),
        length_both function index here i,
        length_code function (suc index) (here + count_of program frames function index i) code,
      )

  length_way : (function : ℕ) → length (way_code (frame_at frames function)) ≡ way_count (frame_at frames function)
  length_way function = go (frame_at frames function).saves
    where
      go : (b : Bool) → length (if b then store RETURN_ADDRESS (4 * (frame_at frames function).return_address) ∷ [] else []) ≡ (if b then 1 else 0)
      go true = refl
      go false = refl

  pub length_saving : (function : ℕ) → length (ordinary (saving_code (frame_at frames function))) ≡ saving_count (frame_at frames function)
  length_saving function =
      let frame : Frame = frame_at frames function in
      omega (arith, length_ordinary (saving_code frame), length-append (way_code frame) (saves frame ++ arrivals frame), length-append (saves frame) (arrivals frame), length_way function, length_saves frame.first_saved 0 frame.saved, length_arrivals frame)

  pub length_routine : (function here : ℕ) (r : Routine) → length (routine_lines program frames function here r) ≡ function_count program frames function r
  length_routine function here r =
      omega (arith, length-append (ordinary (saving_code (frame_at frames function))) (code_lines program frames function 0 (here + saving_count (frame_at frames function)) r.code), length_saving function, length_code function 0 (here + saving_count (frame_at frames function)) r.code)

  pub length_functions : (function here : ℕ) (routines : List Routine) → length (function_lines program frames function here routines) ≡ functions_count program frames function routines
  length_functions function here [] = refl
  length_functions function here (r ∷ routines) =
      omega (arith, length-append (routine_lines program frames function here r) (function_lines program frames (suc function) (here + function_count program frames function r) routines), length_routine function here r, length_functions (suc function) (here + function_count program frames function r) routines)

  module _ (all : Labelled) where
    code_stands : (function first here : ℕ) (code : List Instruction) (k index n : ℕ) (i : Instruction) → slice_get code k ≡ Some i → index ≡ first + k → n ≡ here + code_count program frames function first (take k code)
        → Stands all here (code_lines program frames function first here code) → Stands all n (place_lines program frames function index n i ++ following program frames function i)
    code_stands function first here [] k index n i at index_is is stands = absurd (let e : None ≡ Some i = at in cc)
    code_stands function first here (x ∷ code) zero index n i at index_is is stands =
        let same : x ≡ i = (let e : Some x ≡ Some i = at in cc) in
        let there : here ≡ n = omega (arith, is) in
        let number : first ≡ index = omega (arith, index_is) in
        subst (λ (k : ℕ). Stands all k (place_lines program frames function index k i ++ following program frames function i)) there
        (subst (λ (k : ℕ). Stands all here (place_lines program frames function k here i ++ following program frames function i)) number
        (subst (λ (y : Instruction). Stands all here (place_lines program frames function first here y ++ following program frames function y)) same
        (stands_front all here (place_lines program frames function first here x ++ following program frames function x) (code_lines program frames function (suc first) (here + count_of program frames function first x) code) stands)))
    code_stands function first here (x ∷ code) (suc k) index n i at index_is is stands =
        let long = length_both function first here x in
        code_stands function (suc first) (here + count_of program frames function first x) code k index n i at (omega (arith, index_is)) (omega (arith, is))
        (subst (λ (m : ℕ). Stands all (here + m) (code_lines program frames function (suc first) (here + count_of program frames function first x) code)) long
        (stands_back all here (place_lines program frames function first here x ++ following program frames function x) (code_lines program frames function (suc first) (here + count_of program frames function first x) code) stands))

    functions_stand : (first here : ℕ) (routines : List Routine) (k n : ℕ) → k < length routines → n ≡ here + functions_count program frames first (take k routines)
        → Stands all here (function_lines program frames first here routines) → Stands all n (routine_lines program frames (first + k) n (slice_index_or routines k no_routine))
    functions_stand first here [] k n below is stands = absurd (omega arith)
    functions_stand first here (r ∷ routines) zero n below is stands =
        let there : here ≡ n = omega (arith, is) in
        let same : first ≡ first + 0 = omega arith in
        subst (λ (f : ℕ). Stands all n (routine_lines program frames f n r)) same
        (subst (λ (m : ℕ). Stands all m (routine_lines program frames first m r)) there
        (stands_front all here (routine_lines program frames first here r) (function_lines program frames (suc first) (here + function_count program frames first r) routines) stands))
    functions_stand first here (r ∷ routines) (suc k) n below is stands =
        let long = length_routine first here r in
        let same : suc first + k ≡ first + suc k = omega arith in
        subst (λ (f : ℕ). Stands all n (routine_lines program frames f n (slice_index_or routines k no_routine))) same
        (functions_stand (suc first) (here + function_count program frames first r) routines k n (omega (arith, below)) (omega (arith, is))
        (subst (λ (m : ℕ). Stands all (here + m) (function_lines program frames (suc first) (here + function_count program frames first r) routines)) long
        (stands_back all here (routine_lines program frames first here r) (function_lines program frames (suc first) (here + function_count program frames first r) routines) stands)))

  -- A piece of code begins at the line whose number is the length of the code before this piece.
  stands_from : (front rest : List Line) (globals : List ℕ) → Stands (record { lines = front ++ rest; globals = globals }) (length front) rest
  stands_from front [] globals = tt
  stands_from front (l ∷ rest) globals = (
    slice_get-seam front l rest,
    subst (λ (ls : List Line). Stands (record { lines = ls; globals = globals }) (length front + 1) rest) (append_assoc front (l ∷ []) rest)
        (subst (λ (n : ℕ). Stands (record { lines = (front ++ l ∷ []) ++ rest; globals = globals }) n rest) (length-append front (l ∷ [])) (stands_from (front ++ l ∷ []) rest globals)),
  )

  pub starts : Stands (select_of program frames) 0 (start_lines program frames)
  starts = stands_front (select_of program frames) 0 (start_lines program frames) (function_lines program frames 0 START_LINES program.functions) (stands_from [] (start_lines program frames ++ function_lines program frames 0 START_LINES program.functions) program.globals)

  pub stand_functions : Stands (select_of program frames) START_LINES (function_lines program frames 0 START_LINES program.functions)
  stand_functions = stands_back (select_of program frames) 0 (start_lines program frames) (function_lines program frames 0 START_LINES program.functions) (stands_from [] (start_lines program frames ++ function_lines program frames 0 START_LINES program.functions) program.globals)

  pub stand_function : (function : ℕ) → function < length program.functions → Stands (select_of program frames) (function_line program frames function) (routine_lines program frames function (function_line program frames function) (routine_at program function))
  stand_function function known =
      let same : 0 + function ≡ function = omega arith in
      subst (λ (f : ℕ). Stands (select_of program frames) (function_line program frames function) (routine_lines program frames f (function_line program frames function) (routine_at program function))) same
      (functions_stand (select_of program frames) 0 START_LINES program.functions function (function_line program frames function) known refl stand_functions)

  -- The code of a function begins with the lines that save registers, followed by those of its instructions.
  pub stand_saving : (function : ℕ) → function < length program.functions → Stands (select_of program frames) (function_line program frames function) (ordinary (saving_code (frame_at frames function)))
  stand_saving function known =
      stands_front (select_of program frames) (function_line program frames function) (ordinary (saving_code (frame_at frames function)))
      (code_lines program frames function 0 (function_line program frames function + saving_count (frame_at frames function)) (routine_at program function).code) (stand_function function known)

  stand_code : (function : ℕ) → function < length program.functions
      → Stands (select_of program frames) (function_line program frames function + saving_count (frame_at frames function)) (code_lines program frames function 0 (function_line program frames function + saving_count (frame_at frames function)) (routine_at program function).code)
  stand_code function known =
      let here : ℕ = function_line program frames function + saving_count (frame_at frames function) in
      subst (λ (n : ℕ). Stands (select_of program frames) (function_line program frames function + n) (code_lines program frames function 0 here (routine_at program function).code)) (length_saving function)
      (stands_back (select_of program frames) (function_line program frames function) (ordinary (saving_code (frame_at frames function))) (code_lines program frames function 0 here (routine_at program function).code) (stand_function function known))

  pub stand : (function index : ℕ) (i : Instruction) → instruction_at program (record { function = function; index = index }) ≡ Some i
      → Stands (select_of program frames) (instruction_line program frames function index) (place_lines program frames function index (instruction_line program frames function index) i ++ following program frames function i)
  stand function index i at =
      code_stands (select_of program frames) function 0 (function_line program frames function + saving_count (frame_at frames function)) (routine_at program function).code index index (instruction_line program frames function index) i at (omega arith) refl
      (stand_code function (function_known program (record { function = function; index = index }) i at))
