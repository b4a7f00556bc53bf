-- The numbers of lines emitted for operands, plans (how MIPS performs an operation) and tests equal
-- the numbers counted for them, and have small upper bounds.
use Rattle.std.proofs.Common.{◌≡◌, ℕ, zero, suc, ◌+◌, ◌-◌, ◌*◌, ◌%◌, ◌^◌, ◌<◌, ◌≤◌, Bool, true, false, List, [], ◌∷◌, length, Option, None, Some, refl, sym, ap, ◌∙◌, arith, length-append}
use Rattle.std.specs.Prelude.{◌==◌, nat_lt, if◌then◌else◌}
use Rattle.std.proofs.lemmas.Bool.{false≢true}
use Rattle.cyc_registers.specs.inside.Bars.{is_crossing}
use Rattle.cyc_isa.specs.declared.instr.Instr.{Instr}
use Rattle.cyc_isa.specs.declared.instr.ArithmeticOp.{ArithmeticOp}
use Rattle.cyc_isa.specs.declared.instr.ArithmeticOp.TheVariants as arithmetic
use Rattle.cyc_isa.specs.declared.instr.ImmediateOp.{ImmediateOp}
use Rattle.cyc_isa.specs.declared.instr.ImmediateOp.TheVariants as immediate
use Rattle.cyc_plain.specs.declared.instruction.UnaryOperator.{UnaryOperator}
use Rattle.cyc_plain.specs.declared.instruction.UnaryOperator.TheVariants as unary
use Rattle.cyc_plain.specs.declared.instruction.BinaryOperator.{BinaryOperator}
use Rattle.cyc_plain.specs.declared.instruction.Operand.{Operand}
use Rattle.cyc_plain.specs.declared.instruction.Operand.TheVariants as operands
use Rattle.cyc_plain.specs.declared.instruction.Request.{Request}
use Rattle.cyc_plain.specs.declared.instruction.Request.TheVariants as requests
use Rattle.cyc_plain.specs.inside.Requests.{first_operand, answer_count, destination_of, operand_size}
use Rattle.cyc_frame.specs.inside.Frame.{Frame}
use Rattle.cyc_select.specs.declared.constants.TheConstants.{FIRST, SECOND, THIRD, ZERO}
use Rattle.cyc_select.specs.declared.plan.Operation.{Operation}
use Rattle.cyc_select.specs.declared.plan.Operation.TheVariants as operations
use Rattle.cyc_select.specs.declared.plan.Outcome.{Outcome}
use Rattle.cyc_select.specs.declared.plan.Outcome.TheVariants as outcomes
use Rattle.cyc_select.specs.declared.plan.Plan.{Plan}
use Rattle.cyc_select.specs.declared.plan.Test.{Test}
use Rattle.cyc_select.specs.declared.plan.Test.TheVariants as tests
use Rattle.cyc_select.specs.inside.Plans.{arithmetic_plan, immediate_plan, immediate_or, zero_plan, differs_plan, equal_plan, unary_plan, binary_plan}
use Rattle.cyc_select.specs.inside.Numbers.{fits_signed, negated_half, is_word, is_zero_word}
use Rattle.cyc_select.specs.inside.Instructions.{small, load_upper, constant, store_slot, add_immediate, minus}
use Rattle.cyc_select.specs.inside.Slots.{value_register, is_kept, keep_code, give_to, give_code, bring_code, bring_all, load_words, store_all, result_registers, made_in, is_near, upper_of_global, reach_code, at_global, global_code, is_own}
use Rattle.cyc_select.specs.inside.Operands.{fetch_from, fetch_count, keep_count, give_count_to, give_count, gives_count, move_count_to, move_count, moves_count, or_immediate, is_tested, word_code, load_code, operand_code, operand_register, operation_code, outcome_code, operands_code, operation_of}
use Rattle.cyc_select.specs.inside.Operands.{computed_code, plan_code, test_code, word_count, load_count, operand_count, far_plan, address_code, address_count, operation_count, outcome_count, count_of_operation, plan_count, test_count, divide_count, operator_count, reach_count}
use Rattle.cyc_select.specs.inside.Passing.{passed_from, spill_from, spill, spills, spill_count_from, spill_count, spills_count, pass_from, pass, copies, pass_count_from, pass_count, copies_count}
use Rattle.cyc_select.specs.inside.Hoisting.{with_hoisted, hoisted_count}
use Rattle.cyc_select.specs.inside.Counts.{move_words_count, argument_count, regions_count}
use Rattle.cyc_select.specs.inside.Selection.{move_to, moves, all_moved, moved_code, argument_code, service_number, answer_code, divided_code, regions_code}
use Rattle.cyc_select.proofs.relation.Values.{memory_kept}
use Rattle.cyc_isa.specs.declared.instr.MemoryOp.{MemoryOp}

-- ---- upper bounds

-- Loading a constant word takes at most two MIPS lines: one if one of three tests shows that one instruction suffices, otherwise two.
word_either : (a b c : Bool) → (if a then 1 else (if b then 1 else (if c then 1 else 2))) ≤ 2
word_either true b c = omega arith
word_either false true c = omega arith
word_either false false true = omega arith
word_either false false false = omega arith

pub word_small : (word : ℕ) → word_count word ≤ 2
word_small word = word_either (fits_signed word) (nat_lt word (2 ^ 16)) (word % 2 ^ 16 == 0)

word_some : (word : ℕ) → 0 < word_count word
word_some word = go (fits_signed word) (nat_lt word (2 ^ 16)) (word % 2 ^ 16 == 0)
  where
    go : (a b c : Bool) → 0 < (if a then 1 else (if b then 1 else (if c then 1 else 2)))
    go true b c = omega arith
    go false true c = omega arith
    go false false true = omega arith
    go false false false = omega arith

-- Loading an operand takes at least one MIPS line, and so does performing an operation.
pub load_some : (o : Operand) → 0 < load_count o
load_some (operands.Slot number) = omega arith
load_some (operands.Word word) = word_some word

pub operation_some : (o : Operation) → 0 < operation_count o
operation_some (operations.Arithmetic op) = omega arith
operation_some (operations.Immediate op half) = omega arith
operation_some (operations.Shift op) = omega arith
operation_some (operations.ShiftBy op amount) = omega arith
operation_some (operations.MultiplyDivide op from) = omega arith

pub load_small : (o : Operand) → load_count o ≤ 2
load_small (operands.Slot number) = omega arith
load_small (operands.Word word) = word_small word

if_at_most_two : (b : Bool) (n : ℕ) → n ≤ 2 → (if b then 0 else n) ≤ 2
if_at_most_two true n small = omega arith
if_at_most_two false n small = small

operation_small : (o : Operation) → operation_count o ≤ 2
operation_small (operations.Arithmetic op) = omega arith
operation_small (operations.Immediate op half) = omega arith
operation_small (operations.Shift op) = omega arith
operation_small (operations.ShiftBy op amount) = omega arith
operation_small (operations.MultiplyDivide op from) = omega arith

outcome_small : (o : Outcome) → outcome_count o ≤ 1
outcome_small outcomes.AsItIs = omega arith
outcome_small outcomes.WhetherZero = omega arith
outcome_small outcomes.WhetherNotZero = omega arith

module _ (frame : Frame) where
  fetch_small : (o : Option ℕ) → fetch_count o ≤ 2
  fetch_small None = omega arith
  fetch_small (Some own) = omega arith

  pub operand_small : (o : Operand) → operand_count frame o ≤ 2
  operand_small (operands.Slot number) = fetch_small (value_register frame number)
  operand_small (operands.Word word) = if_at_most_two (is_zero_word (operands.Word word)) (word_count word) (word_small word)

  either_few : (b : Bool) → (if b then 1 else 0) ≤ 1
  either_few true = omega arith
  either_few false = omega arith

  pub reach_few : (global : ℕ) → reach_count global ≤ 1
  reach_few global = go (is_near global)
    where
      go : (b : Bool) → (if b then 0 else 1) ≤ 1
      go true = omega arith
      go false = omega arith

  pub keep_few : (slot : ℕ) → keep_count frame slot ≤ 1
  keep_few slot = either_few (is_kept frame slot)

  pub give_small : (slot : ℕ) → give_count frame slot ≤ 2
  give_small slot = go (value_register frame slot)
    where
      go : (o : Option ℕ) → give_count_to o frame slot ≤ 2
      go None = omega arith
      go (Some register) = omega (arith, keep_few slot)

  pub give_some : (slot : ℕ) → 0 < give_count frame slot
  give_some slot = go (value_register frame slot)
    where
      go : (o : Option ℕ) → 0 < give_count_to o frame slot
      go None = omega arith
      go (Some register) = omega arith

  pub move_some : (destination : ℕ) (source : Operand) → 0 < move_count frame destination source
  move_some destination source = go (value_register frame destination)
    where
      go : (o : Option ℕ) → 0 < move_count_to o frame destination source
      go None = omega arith
      go (Some register) = omega (arith, load_some source)

  pub move_small : (destination : ℕ) (source : Operand) → move_count frame destination source ≤ 3
  move_small destination source = go (value_register frame destination)
    where
      go : (o : Option ℕ) → move_count_to o frame destination source ≤ 3
      go None = omega (arith, operand_small source)
      go (Some register) = omega (arith, load_small source, keep_few destination)

  computed_small : (plan : Plan) → count_of_operation frame plan ≤ 6
  computed_small plan = omega (arith, operand_small plan.left, operand_small plan.right, operation_small plan.operation)

  pub plan_small : (plan : Plan) (destination : ℕ) → plan_count frame plan destination ≤ 8
  plan_small plan destination = omega (arith, computed_small plan, outcome_small plan.outcome, keep_few destination)

  -- A plan (how MIPS performs an operation) without a multiplication or division has at most seven lines.

  arithmetic_small : (destination : ℕ) (op : ArithmeticOp) (left right : Operand) (o : Outcome) → plan_count frame (arithmetic_plan op left right o) destination ≤ 7
  arithmetic_small destination op left right o = omega (arith, operand_small left, operand_small right, outcome_small o, keep_few destination)

  immediate_small : (destination : ℕ) (op : ImmediateOp) (left : Operand) (half : ℕ) (o : Outcome) → plan_count frame (immediate_plan op left half o) destination ≤ 7
  immediate_small destination op left half o = omega (arith, operand_small left, operand_small (operands.Word 0), outcome_small o, keep_few destination)

  plan_either : (destination : ℕ) (b : Bool) (x y : Plan) → plan_count frame x destination ≤ 7 → plan_count frame y destination ≤ 7 → plan_count frame (if b then x else y) destination ≤ 7
  plan_either destination true x y first second = first
  plan_either destination false x y first second = second

  immediate_or_small : (destination : ℕ) (half : Option ℕ) (op : ImmediateOp) (left : Operand) (o : Outcome) (other : Plan) → plan_count frame other destination ≤ 7 → plan_count frame (immediate_or half op left o other) destination ≤ 7
  immediate_or_small destination (Some half) op left o other small = immediate_small destination op left half o
  immediate_or_small destination None op left o other small = small

  equal_small : (destination : ℕ) (left right : Operand) → plan_count frame (equal_plan left right true) destination ≤ 7
  equal_small destination left right =
      plan_either destination (is_zero_word right) (zero_plan left true) (differs_plan left right outcomes.WhetherZero) (immediate_small destination immediate.SetLessUnsigned left 1 outcomes.AsItIs)
      (immediate_or_small destination (negated_half right) immediate.AddUnsigned left outcomes.WhetherZero (arithmetic_plan arithmetic.SubtractUnsigned left right outcomes.WhetherZero) (arithmetic_small destination arithmetic.SubtractUnsigned left right outcomes.WhetherZero))

  pub unary_small : (operator : UnaryOperator) (operand : Operand) (destination : ℕ) → plan_count frame (unary_plan operator operand) destination ≤ 7
  unary_small unary.Negate operand destination = arithmetic_small destination arithmetic.SubtractUnsigned (operands.Word 0) operand outcomes.AsItIs
  unary_small unary.Complement operand destination = arithmetic_small destination arithmetic.Nor (operands.Word 0) operand outcomes.AsItIs
  unary_small unary.Not operand destination =
      plan_either destination (is_word operand) (equal_plan (operands.Word 0) operand true) (equal_plan operand (operands.Word 0) true) (equal_small destination (operands.Word 0) operand) (equal_small destination operand (operands.Word 0))

  pub test_small : (test : Test) → test_count frame test ≤ 6
  test_small (tests.Operands op left right) = omega (arith, operand_small left, operand_small right)
  test_small (tests.Sign op operand) = omega (arith, operand_small operand)
  test_small (tests.Computed plan) = computed_small plan

  address_either : (b : Bool) (near far : ℕ) → near ≤ 2 → far ≤ 5 → (if b then near else far) ≤ 5
  address_either true near far first second = omega (arith, first)
  address_either false near far first second = second

  pub address_small : (address : Operand) (offset : ℕ) → address_count frame address offset ≤ 5
  address_small address offset =
      address_either (fits_signed offset) (operand_count frame address) (count_of_operation frame (far_plan address offset)) (operand_small address)
      (omega (arith, operand_small address, operand_small (operands.Word offset)))

  operator_either : (b : Bool) (divided planned : ℕ) → divided ≤ 11 → planned ≤ 8 → (if b then divided else planned) ≤ 11
  operator_either true divided planned few small = few
  operator_either false divided planned few small = omega (arith, small)

  pub operator_small : (operator : BinaryOperator) (destination : ℕ) (left right : Operand) → operator_count frame operator destination left right ≤ 11
  operator_small operator destination left right =
      operator_either (is_tested operator right) (divide_count frame destination left right) (plan_count frame (binary_plan operator left right) destination) (omega (arith, operand_small left, operand_small right, keep_few destination)) (plan_small (binary_plan operator left right) destination)

pub argument_small : (o : Option Operand) → argument_count o ≤ operand_size o
argument_small None = omega arith
argument_small (Some operand) = omega (arith, load_small operand)

-- The lines that load the first operand of a request to the store and update the number of open regions are not more than the lines
-- reserved for the request.
pub regions_small : (request : Request) → argument_count (first_operand request) + regions_count request ≤ operand_size (first_operand request) + answer_count request
regions_small (requests.OpenLexical destination) = omega arith
regions_small (requests.CloseTo mark) = omega (arith, load_small mark)
regions_small (requests.OpenDynamic destination) = omega arith
regions_small (requests.CloseDynamic handle) = omega (arith, load_small handle)
regions_small (requests.Allocate destination handle words) = omega (arith, load_small handle)
regions_small (requests.Free address) = omega (arith, load_small address)

pub answer_few : (request : Request) → answer_count request ≤ 2
answer_few (requests.OpenLexical destination) = omega arith
answer_few (requests.CloseTo mark) = omega arith
answer_few (requests.OpenDynamic destination) = omega arith
answer_few (requests.CloseDynamic handle) = omega arith
answer_few (requests.Allocate destination handle words) = omega arith
answer_few (requests.Free address) = omega arith

pub service_small : (request : Request) → service_number request ≤ 11
service_small (requests.OpenLexical destination) = omega arith
service_small (requests.CloseTo mark) = omega arith
service_small (requests.OpenDynamic destination) = omega arith
service_small (requests.CloseDynamic handle) = omega arith
service_small (requests.Allocate destination handle words) = omega arith
service_small (requests.Free address) = omega arith

pub length_regions : (request : Request) → length (regions_code request) ≡ regions_count request
length_regions (requests.OpenLexical destination) = refl
length_regions (requests.CloseTo mark) = refl
length_regions (requests.OpenDynamic destination) = refl
length_regions (requests.CloseDynamic handle) = refl
length_regions (requests.Allocate destination handle words) = refl
length_regions (requests.Free address) = refl

-- ---- exact numbers of lines

pub length_word : (target word : ℕ) → length (word_code target word) ≡ word_count word
length_word target word = length_either (fits_signed word) (nat_lt word (2 ^ 16)) (word % 2 ^ 16 == 0)
  where
    length_either : (a b c : Bool) → length (if a then small target (word % 2 ^ 16) ∷ [] else (if b then or_immediate target word ∷ [] else (if c then load_upper target word ∷ [] else constant target word))) ≡ (if a then 1 else (if b then 1 else (if c then 1 else 2)))
    length_either true b c = refl
    length_either false true c = refl
    length_either false false true = refl
    length_either false false false = refl

pub length_load : (frame : Frame) (target : ℕ) (o : Operand) → length (load_code frame target o) ≡ load_count o
length_load frame target (operands.Slot number) = refl
length_load frame target (operands.Word word) = length_word target word

length_if : (b : Bool) (is : List Instr) (n : ℕ) → length is ≡ n → length (if b then [] else is) ≡ (if b then 0 else n)
length_if true is n same = refl
length_if false is n same = same

length_fetch : (o : Option ℕ) (frame : Frame) (register slot : ℕ) → length (fetch_from o frame register slot) ≡ fetch_count o
length_fetch None frame register slot = refl
length_fetch (Some own) frame register slot = refl

pub length_operand : (frame : Frame) (register : ℕ) (o : Operand) → length (operand_code frame register o) ≡ operand_count frame o
length_operand frame register (operands.Slot number) = length_fetch (value_register frame number) frame register number
length_operand frame register (operands.Word word) = length_if (is_zero_word (operands.Word word)) (word_code register word) (word_count word) (length_word register word)

length_reach : (global : ℕ) → length (reach_code global) ≡ reach_count global
length_reach global = length_if (is_near global) (upper_of_global global ∷ []) 1 refl

pub length_global : (op : MemoryOp) (register global : ℕ) → length (global_code op register global) ≡ reach_count global + 1
length_global op register global =
    omega (arith, length-append (reach_code global) (at_global op register global ∷ []), length_reach global)

pub length_keep : (frame : Frame) (slot : ℕ) → length (keep_code frame slot) ≡ keep_count frame slot
length_keep frame slot = go (is_kept frame slot)
  where
    go : (b : Bool) → length (if b then store_slot frame (made_in frame slot) slot ∷ [] else []) ≡ (if b then 1 else 0)
    go true = refl
    go false = refl

pub length_give : (frame : Frame) (source slot : ℕ) → length (give_code frame source slot) ≡ give_count frame slot
length_give frame source slot = go (value_register frame slot)
  where
    go : (o : Option ℕ) → length (give_to o frame source slot) ≡ give_count_to o frame slot
    go None = refl
    go (Some register) = let e : suc (length (keep_code frame slot)) ≡ keep_count frame slot + 1 = omega (arith, length_keep frame slot) in e

pub length_move : (frame : Frame) (destination : ℕ) (source : Operand) → length (move_to (value_register frame destination) frame destination source) ≡ move_count frame destination source
length_move frame destination source = go (value_register frame destination)
  where
    go : (o : Option ℕ) → length (move_to o frame destination source) ≡ move_count_to o frame destination source
    go None = omega (arith, length-append (operand_code frame FIRST source) (store_slot frame (operand_register frame FIRST source) destination ∷ []), length_operand frame FIRST source)
    go (Some register) = omega (arith, length-append (load_code frame register source) (keep_code frame destination), length_load frame register source, length_keep frame destination)

length_operation : (o : Operation) (target left right : ℕ) → length (operation_code o target left right) ≡ operation_count o
length_operation (operations.Arithmetic op) target left right = refl
length_operation (operations.Immediate op half) target left right = refl
length_operation (operations.Shift op) target left right = refl
length_operation (operations.ShiftBy op amount) target left right = refl
length_operation (operations.MultiplyDivide op from) target left right = refl

length_outcome : (o : Outcome) (target : ℕ) → length (outcome_code o target) ≡ outcome_count o
length_outcome outcomes.AsItIs target = refl
length_outcome outcomes.WhetherZero target = refl
length_outcome outcomes.WhetherNotZero target = refl

length_operands : (frame : Frame) (left right : Operand) → length (operands_code frame left right) ≡ operand_count frame left + operand_count frame right
length_operands frame left right =
    omega (arith, length-append (operand_code frame FIRST left) (operand_code frame SECOND right), length_operand frame FIRST left, length_operand frame SECOND right)

length_operation_of : (frame : Frame) (target : ℕ) (plan : Plan) → length (operation_of frame target plan) ≡ count_of_operation frame plan
length_operation_of frame target plan =
    let last = operation_code plan.operation target (operand_register frame FIRST plan.left) (operand_register frame SECOND plan.right) in
    omega (arith, length-append (operands_code frame plan.left plan.right) last, length_operands frame plan.left plan.right, length_operation plan.operation target (operand_register frame FIRST plan.left) (operand_register frame SECOND plan.right))

pub length_address : (frame : Frame) (address : Operand) (offset : ℕ) → length (address_code frame address offset) ≡ address_count frame address offset
length_address frame address offset =
    either (fits_signed offset) (operand_code frame FIRST address) (operation_of frame FIRST (far_plan address offset)) (operand_count frame address) (count_of_operation frame (far_plan address offset))
    (length_operand frame FIRST address) (length_operation_of frame FIRST (far_plan address offset))
  where
    either : (b : Bool) (is js : List Instr) (m n : ℕ) → length is ≡ m → length js ≡ n → length (if b then is else js) ≡ (if b then m else n)
    either true is js m n first second = first
    either false is js m n first second = second

pub length_computed : (frame : Frame) (target : ℕ) (plan : Plan) → length (computed_code frame target plan) ≡ count_of_operation frame plan + outcome_count plan.outcome
length_computed frame target plan =
    omega (arith, length-append (operation_of frame target plan) (outcome_code plan.outcome target), length_operation_of frame target plan, length_outcome plan.outcome target)

pub length_plan : (frame : Frame) (plan : Plan) (destination : ℕ) → length (plan_code frame plan destination) ≡ plan_count frame plan destination
length_plan frame plan destination =
    let target : ℕ = made_in frame destination in
    omega (arith, length-append (computed_code frame target plan) (keep_code frame destination), length_computed frame target plan, length_keep frame destination)

pub length_test : (frame : Frame) (test : Test) → length (test_code frame test) ≡ test_count frame test
length_test frame (tests.Operands op left right) = length_operands frame left right
length_test frame (tests.Sign op operand) = length_operand frame FIRST operand
length_test frame (tests.Computed plan) = length_operation_of frame FIRST plan

-- The length of a block with a hoisted line is the block's length plus the number of hoisted lines.
pub length_hoisted : (is : List Instr) (first : Option Instr) → length (with_hoisted is first) ≡ length is + hoisted_count first
length_hoisted is None = omega arith
length_hoisted is (Some x) = length-append is (x ∷ [])

pub hoisted_few : (first : Option Instr) → hoisted_count first ≤ 1
hoisted_few None = omega arith
hoisted_few (Some x) = omega arith

pub length_divided : (frame : Frame) (left right : Operand) → length (divided_code frame left right) ≡ operand_count frame left + operand_count frame right + 1
length_divided frame left right =
    omega (arith, length-append (operands_code frame left right) (add_immediate THIRD ZERO (minus 1) ∷ []), length_operands frame left right)

pub gives_small : (frame : Frame) (slot count : ℕ) → gives_count frame slot count ≤ 2 * count
gives_small frame slot zero = omega arith
gives_small frame slot (suc count) = omega (arith, give_small frame slot, gives_small frame (suc slot) count)

-- ---- several words

length_brought : (again : Bool) (f : Frame) (source slot : ℕ) → length (bring_code again f source slot) ≡ (if again then 1 else give_count f slot)
length_brought false f source slot = length_give f source slot
length_brought true f source slot = go (is_kept f slot) refl
  where
    -- Writing a word to a slot whose home is a register alone takes one line.
    given : (o : Option ℕ) → value_register f slot ≡ o → is_kept f slot ≡ false → length (give_to o f source slot) ≡ 1
    given None none unkept = absurd (false≢true (sym unkept ∙ memory_kept f slot none))
    given (Some register) has unkept = ap (λ (b : Bool). suc (length (if b then store_slot f (made_in f slot) slot ∷ [] else []))) unkept

    go : (b : Bool) → is_kept f slot ≡ b → length (if b then store_slot f source slot ∷ [] else give_code f source slot) ≡ 1
    go true kept = refl
    go false unkept = given (value_register f slot) refl unkept

-- If registers are reloaded after a call, writing each result word to its slot takes one MIPS line.
pub length_results : (f : Frame) (slot : ℕ) (sources : List ℕ) → length (bring_all true f slot sources) ≡ length sources
length_results f slot [] = refl
length_results f slot (source ∷ sources) =
    omega (arith, length-append (bring_code true f source slot) (bring_all true f (suc slot) sources), length_brought true f source slot, length_results f (suc slot) sources)

length_gives : (f : Frame) (slot : ℕ) (sources : List ℕ) → length (bring_all false f slot sources) ≡ gives_count f slot (length sources)
length_gives f slot [] = refl
length_gives f slot (source ∷ sources) =
    omega (arith, length-append (bring_code false f source slot) (bring_all false f (suc slot) sources), length_brought false f source slot, length_gives f (suc slot) sources)

pub length_stores : (f : Frame) (slot : ℕ) (sources : List ℕ) → length (store_all f slot sources) ≡ length sources
length_stores f slot [] = refl
length_stores f slot (source ∷ sources) = ap suc (length_stores f (suc slot) sources)

pub length_words : (f : Frame) (slot : ℕ) (targets : List ℕ) → length (load_words f slot targets) ≡ length targets
length_words f slot [] = refl
length_words f slot (target ∷ targets) = ap suc (length_words f (suc slot) targets)

pub length_moves : (f : Frame) (destination source count : ℕ) → length (moves f destination source count) ≡ moves_count f destination source count
length_moves f destination source zero = refl
length_moves f destination source (suc count) =
    omega (arith, length-append (move_to (value_register f destination) f destination (operands.Slot source)) (moves f (suc destination) (suc source) count), length_move f destination (operands.Slot source), length_moves f (suc destination) (suc source) count)

moves_small : (f : Frame) (destination source count : ℕ) → moves_count f destination source count ≤ 3 * count
moves_small f destination source zero = omega arith
moves_small f destination source (suc count) = omega (arith, move_small f destination (operands.Slot source), moves_small f (suc destination) (suc source) count)

pub moves_some : (f : Frame) (destination source count : ℕ) → 0 < count → 0 < moves_count f destination source count
moves_some f destination source zero some = absurd (omega (arith, some))
moves_some f destination source (suc count) some = omega (arith, move_some f destination (operands.Slot source))

-- In a move of several words, the lines from one word on are those for this word plus those from the next word on.
pub moves_next : (f : Frame) (destination source count word : ℕ) → word < count
    → moves_count f (destination + word) (source + word) (count - word)
    ≡ move_count f (destination + word) (operands.Slot (source + word)) + moves_count f (destination + (word + 1)) (source + (word + 1)) (count - (word + 1))
moves_next f destination source count word below =
    let left : count - word ≡ suc (count - (word + 1)) = omega (arith, below) in
    let to : suc (destination + word) ≡ destination + (word + 1) = omega arith in
    let from : suc (source + word) ≡ source + (word + 1) = omega arith in
    ap (moves_count f (destination + word) (source + word)) left
    ∙ ap (λ (n : ℕ). move_count f (destination + word) (operands.Slot (source + word)) + moves_count f n (suc (source + word)) (count - (word + 1))) to
    ∙ ap (λ (n : ℕ). move_count f (destination + word) (operands.Slot (source + word)) + moves_count f (destination + (word + 1)) n (count - (word + 1))) from

pub length_spills : (caller callee : Frame) (source slot count : ℕ) → length (spills caller callee source slot count) ≡ spills_count caller callee source slot count
length_spills caller callee source slot zero = refl
length_spills caller callee source slot (suc count) =
    omega (arith, length-append (spill caller callee source slot) (spills caller callee (suc source) (suc slot) count), one (passed_from caller callee source slot), length_spills caller callee (suc source) (suc slot) count)
  where
    unkept : (b : Bool) → length (if b then [] else store_slot caller (made_in caller source) source ∷ []) ≡ (if b then 0 else 1)
    unkept true = refl
    unkept false = refl

    one : (o : Option ℕ) → length (spill_from o caller source) ≡ spill_count_from o caller source
    one None = unkept (is_kept caller source)
    one (Some register) = refl

pub spills_few : (caller callee : Frame) (source slot count : ℕ) → spills_count caller callee source slot count ≤ count
spills_few caller callee source slot zero = omega arith
spills_few caller callee source slot (suc count) = omega (arith, one (passed_from caller callee source slot), spills_few caller callee (suc source) (suc slot) count)
  where
    unkept : (b : Bool) → (if b then 0 else 1) ≤ 1
    unkept true = omega arith
    unkept false = omega arith

    one : (o : Option ℕ) → spill_count_from o caller source ≤ 1
    one None = unkept (is_kept caller source)
    one (Some register) = omega arith

-- When several slots are spilled, the number of lines from one slot on is that for this slot plus that from the next slot on.
pub spills_next : (caller callee : Frame) (source count word : ℕ) → word < count
    → spills_count caller callee (source + word) word (count - word)
    ≡ spill_count caller callee (source + word) word + spills_count caller callee (source + (word + 1)) (word + 1) (count - (word + 1))
spills_next caller callee source count word below =
    let left : count - word ≡ suc (count - (word + 1)) = omega (arith, below) in
    let from : suc (source + word) ≡ source + (word + 1) = omega arith in
    let to : suc word ≡ word + 1 = omega arith in
    ap (spills_count caller callee (source + word) word) left
    ∙ ap (λ (n : ℕ). spill_count caller callee (source + word) word + spills_count caller callee n (suc word) (count - (word + 1))) from
    ∙ ap (λ (n : ℕ). spill_count caller callee (source + word) word + spills_count caller callee (source + (word + 1)) n (count - (word + 1))) to

pub length_copies : (caller callee : Frame) (source slot count : ℕ) → length (copies caller callee source slot count) ≡ copies_count caller callee source slot count
length_copies caller callee source slot zero = refl
length_copies caller callee source slot (suc count) =
    omega (arith, length-append (pass caller callee source slot) (copies caller callee (suc source) (suc slot) count), one (passed_from caller callee source slot), length_copies caller callee (suc source) (suc slot) count)
  where
    one : (o : Option ℕ) → length (pass_from o caller callee source slot) ≡ pass_count_from o callee slot
    one None = let e : suc (length (keep_code callee slot)) ≡ keep_count callee slot + 1 = omega (arith, length_keep callee slot) in e
    one (Some register) = handed (is_own (value_register callee slot) register)
      where
        handed : (b : Bool) → length (if b then keep_code callee slot else give_code callee register slot) ≡ (if b then keep_count callee slot else give_count callee slot)
        handed true = length_keep callee slot
        handed false = length_give callee register slot

pub copies_few : (caller callee : Frame) (source slot count : ℕ) → copies_count caller callee source slot count ≤ 2 * count
copies_few caller callee source slot zero = omega arith
copies_few caller callee source slot (suc count) = omega (arith, one (passed_from caller callee source slot), copies_few caller callee (suc source) (suc slot) count)
  where
    one : (o : Option ℕ) → pass_count_from o callee slot ≤ 2
    one None = omega (arith, keep_few callee slot)
    one (Some register) = handed (is_own (value_register callee slot) register)
      where
        handed : (b : Bool) → (if b then keep_count callee slot else give_count callee slot) ≤ 2
        handed true = omega (arith, keep_few callee slot)
        handed false = give_small callee slot

-- When arguments are passed, the number of MIPS lines from one argument on is that for this argument plus that from the next argument on.
pub copies_next : (caller callee : Frame) (source count word : ℕ) → word < count
    → copies_count caller callee (source + word) word (count - word)
    ≡ pass_count caller callee (source + word) word + copies_count caller callee (source + (word + 1)) (word + 1) (count - (word + 1))
copies_next caller callee source count word below =
    let left : count - word ≡ suc (count - (word + 1)) = omega (arith, below) in
    let from : suc (source + word) ≡ source + (word + 1) = omega arith in
    let to : suc word ≡ word + 1 = omega arith in
    ap (copies_count caller callee (source + word) word) left
    ∙ ap (λ (n : ℕ). pass_count caller callee (source + word) word + copies_count caller callee n (suc word) (count - (word + 1))) from
    ∙ ap (λ (n : ℕ). pass_count caller callee (source + word) word + copies_count caller callee (source + (word + 1)) n (count - (word + 1))) to

-- At most as many registers hold a function's result words as there are result words.
pub registers_few : (count : ℕ) → length (result_registers count) ≤ count
registers_few zero = omega arith
registers_few (suc zero) = omega arith
registers_few (suc (suc zero)) = omega arith
registers_few (suc (suc (suc zero))) = omega arith
registers_few (suc (suc (suc (suc count)))) = omega arith

pub length_registers : (count : ℕ) → count ≤ 3 → length (result_registers count) ≡ count
length_registers zero few_results = refl
length_registers (suc zero) few_results = refl
length_registers (suc (suc zero)) few_results = refl
length_registers (suc (suc (suc zero))) few_results = refl
length_registers (suc (suc (suc (suc count)))) few_results = absurd (omega (arith, few_results))

-- A move of several words emits as many lines as `move_words_count` counts.
pub length_moved : (f : Frame) (destination source count : ℕ) → length (moved_code f destination source count) ≡ move_words_count f destination source count
length_moved f destination source count = go (is_crossing destination source count)
  where
    go : (b : Bool) → length (if b then all_moved f destination source count else moves f destination source count) ≡ (if b then 2 * length (result_registers count) else moves_count f destination source count)
    go true =
        omega (arith, length-append (load_words f source (result_registers count)) (store_all f destination (result_registers count)), length_words f source (result_registers count), length_stores f destination (result_registers count))
    go false = length_moves f destination source count

pub move_words_small : (f : Frame) (destination source count : ℕ) → move_words_count f destination source count ≤ 3 * count
move_words_small f destination source count = go (is_crossing destination source count)
  where
    go : (b : Bool) → (if b then 2 * length (result_registers count) else moves_count f destination source count) ≤ 3 * count
    go true = omega (arith, registers_few count)
    go false = moves_small f destination source count

pub move_words_some : (f : Frame) (destination source count : ℕ) → 0 < count → count ≤ 3 → 0 < move_words_count f destination source count
move_words_some f destination source count some few = go (is_crossing destination source count)
  where
    go : (b : Bool) → 0 < (if b then 2 * length (result_registers count) else moves_count f destination source count)
    go true = omega (arith, length_registers count few, some)
    go false = moves_some f destination source count some

-- ---- requests to the store

pub length_argument : (frame : Frame) (register : ℕ) (o : Option Operand) → length (argument_code frame register o) ≡ argument_count o
length_argument frame register None = refl
length_argument frame register (Some operand) = length_load frame register operand

pub length_answer : (frame : Frame) (request : Request) → length (answer_code frame request) ≡ gives_count frame (destination_of request) (answer_count request)
length_answer frame request =
    length_gives frame (destination_of request) (result_registers (answer_count request))
    ∙ ap (gives_count frame (destination_of request)) (length_registers (answer_count request) (omega (arith, answer_few request)))
