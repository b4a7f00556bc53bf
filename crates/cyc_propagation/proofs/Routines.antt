-- A function remains well-formed when its instructions are replaced, and the numbers in its instructions still fit machine words.
use Rattle.std.proofs.Common.{◌≡◌, ℕ, ◌+◌, ◌-◌, ◌<◌, Bool, true, false, List, length, Option, Some, None, slice_get, refl, sym, subst, ◌∙◌, arith}
use Rattle.std.specs.Prelude.{All, IsSomeAnd, nat_lt}
use Rattle.std.proofs.lemmas.Bool.{cond_both, ltb-true, false≢true}
use Rattle.cyc_words.proofs.Lists.{slice_get_below}
use Rattle.cyc_words.proofs.Members.{All_by_number, All_at}
use Rattle.cyc_words.proofs.Items.{below_from_slice_get}
use Rattle.cyc_plain.specs.declared.instruction.Instruction.{Instruction}
use Rattle.cyc_plain.specs.declared.instruction.Instruction.TheVariants as instructions
use Rattle.cyc_plain.specs.declared.instruction.Operand.{Operand}
use Rattle.cyc_plain.specs.declared.instruction.Operand.TheVariants as operands
use Rattle.cyc_plain.specs.declared.instruction.Request.{Request}
use Rattle.cyc_plain.specs.declared.instruction.Request.TheVariants as requests
use Rattle.cyc_plain.specs.declared.instruction.BinaryOperator.{BinaryOperator}
use Rattle.cyc_plain.specs.declared.limits.TheConstants.{RECORD_WORDS}
use Rattle.cyc_plain.specs.inside.Program.{Routine, Program}
use Rattle.cyc_plain.specs.inside.WellFormed.{HasSlots, IsOperand, IsCallInRange, IsRequestInRange, IsInRange, IsRoutine, is_return, leaves, HasWord}
use Rattle.cyc_plain.specs.inside.Uses.{At}
use Rattle.cyc_propagation.specs.declared.fact.Fact.{Fact}
use Rattle.cyc_propagation.specs.declared.fact.Fact.TheVariants as facts_are
use Rattle.cyc_propagation.specs.inside.Facts.{is_known, global_offset, is_free, suits_operand, are_suited}
use Rattle.cyc_propagation.specs.inside.Replacement.{vanishes, place_after, put_at, simplified_operand, word_in, takes_word, small_or, right_operand, folded_unary, simplified_unary}
use Rattle.cyc_propagation.specs.inside.Replacement.{folded_at, holder_in, simplified_binary, simplified_move, decision_in, passed_by, simplified_branch, value_in, simplified_load, global_value, simplified_global, simplified_request, simplified_instruction}
use Rattle.cyc_propagation.specs.inside.Simplified.{IsLike}
use Rattle.cyc_propagation.specs.inside.Table.{IsReplaced, AreReplaced}
use Rattle.cyc_propagation.proofs.Same.{passed_either}
use Rattle.cyc_propagation.proofs.Runs.{each_replaced}
use Rattle.cyc_propagation.proofs.Suited.{free_below, operand_has, IsFreeIfAny, holder_in_free, SuitsIfAny, value_in_suits, global_suits}
use Rattle.cyc_propagation.proofs.Words.{has_word}

-- The replacement of an instruction is a return exactly if the instruction is a return.
same_return : (facts : List Fact) (i : Instruction) → is_return (simplified_instruction facts i) ≡ is_return i
same_return facts (instructions.Move destination source) = go (is_known facts (facts_are.Equal destination (simplified_operand facts source)))
  where
    go : (b : Bool) → is_return (simplified_move b destination (simplified_operand facts source)) ≡ false
    go true = refl
    go false = refl
same_return facts (instructions.Binary operator destination left right) = go (folded_at facts operator destination (simplified_operand facts left) (right_operand facts operator (simplified_operand facts right))) (holder_in facts operator (simplified_operand facts left) (right_operand facts operator (simplified_operand facts right)))
  where
    go : (f o : Option ℕ) → is_return (simplified_binary f o operator destination (simplified_operand facts left) (right_operand facts operator (simplified_operand facts right))) ≡ false
    go (Some word) o = refl
    go None (Some slot) = refl
    go None None = refl
same_return facts (instructions.Branch comparison left right target) = go (decision_in facts comparison (simplified_operand facts left) (simplified_operand facts right))
  where
    go : (o : Option Bool) → is_return (simplified_branch o comparison (simplified_operand facts left) (simplified_operand facts right) target) ≡ false
    go (Some true) = refl
    go (Some false) = passed_either (λ (i : Instruction). is_return i ≡ false) (simplified_operand facts left) (simplified_operand facts right) target (λ slot. refl) refl
    go None = refl
same_return facts (instructions.Load destination address offset) = go (value_in facts (simplified_operand facts address) offset)
  where
    go : (o : Option Operand) → is_return (simplified_load o destination (simplified_operand facts address) offset) ≡ false
    go (Some value) = refl
    go None = refl
same_return facts (instructions.Unary operator destination operand) = go (folded_unary facts operator (simplified_operand facts operand))
  where
    go : (o : Option ℕ) → is_return (simplified_unary o operator destination (simplified_operand facts operand)) ≡ false
    go (Some word) = refl
    go None = refl
same_return facts (instructions.LoadGlobal destination global) = go (global_value facts (global_offset global))
  where
    go : (o : Option Operand) → is_return (simplified_global o destination global) ≡ false
    go (Some value) = refl
    go None = refl
same_return facts i = refl

-- If an instruction never falls through, its replacement never falls through.
still_leaves : (facts : List Fact) (i : Instruction) → leaves i ≡ true → leaves (simplified_instruction facts i) ≡ true
still_leaves facts (instructions.Move destination source) is = absurd (false≢true is)
still_leaves facts (instructions.Binary operator destination left right) is = absurd (false≢true is)
still_leaves facts (instructions.Branch comparison left right target) is = absurd (false≢true is)
still_leaves facts (instructions.Unary operator destination operand) is = absurd (false≢true is)
still_leaves facts (instructions.Load destination address offset) is = absurd (false≢true is)
still_leaves facts (instructions.LoadGlobal destination global) is = absurd (false≢true is)
still_leaves facts i is = is

-- The jump that replaces an unreachable instruction has a position of the function's code as its target.
after_below : (index count : ℕ) → index < count → place_after index count < count
after_below index count below =
    cond_both (nat_lt (index + 1) count) (index + 1) index (λ (place : ℕ). place < count) (λ is. ltb-true (index + 1) count is) (λ last. below)

module _ (program simplified : Program) (are : AreReplaced program simplified) (r s : Routine) (replaced : IsReplaced program r s) where
  -- `IsPut` says that the instruction `j` is the replacement of the original function's instruction at `index`.
  record IsPut (index : ℕ) (j : Instruction) : Type 0 where
    pub instruction : Instruction
    pub at : At r index instruction
    pub is : j ≡ put_at (replaced.table index) index (length r.code) instruction
    pub all : are_suited replaced.pinned (replaced.table index) ≡ true

  what_is_put : (index : ℕ) (j : Instruction) → At s index j → IsPut index j
  what_is_put index j at =
      let long = replaced.as_many in
      let within = below_from_slice_get s.code index j at in
      let (i, there) = slice_get_below r.code index (omega (arith, within, long)) in
      record {
        instruction = i;
        at = there;
        is = (let e : Some j ≡ Some (put_at (replaced.table index) index (length r.code) i) = sym at ∙ replaced.each index i there in cc);
        all = replaced.is_table.suited index within;
      }

  -- All instructions of the new code have a property if each replacement of an instruction and each jump to a position of the code have it.
  all_put : (P Q : Instruction → Type 0) → ((facts : List Fact) → are_suited replaced.pinned facts ≡ true → (i : Instruction) → P i → Q (simplified_instruction facts i))
      → ((target : ℕ) → target < length r.code → Q (instructions.Jump target)) → All P r.code → All Q s.code
  all_put P Q each jump all = All_by_number Q s.code (λ index j at.
      let put = what_is_put index j at in
      let facts : List Fact = replaced.table index in
      subst Q (sym put.is)
      (cond_both (vanishes facts put.instruction) (instructions.Jump (place_after index (length r.code))) (simplified_instruction facts put.instruction) Q
      (λ is. jump (place_after index (length r.code)) (after_below index (length r.code) (below_from_slice_get r.code index put.instruction put.at)))
      (λ stays. each facts put.all put.instruction (All_at P r.code index put.instruction all put.at))))

  below_slots : (slot : ℕ) → slot < r.slots → slot < s.slots
  below_slots slot is = let e = replaced.slots in omega (arith, is, e)

  has_slots : (first count : ℕ) → HasSlots r first count → HasSlots s first count
  has_slots first count is = let e = replaced.slots in omega (arith, is, e)

  in_code : (target : ℕ) → target < length r.code → target < length s.code
  in_code target is = let e = replaced.as_many in omega (arith, is, e)

  global_in : (global : ℕ) → global < length program.globals → global < length simplified.globals
  global_in global is = subst (λ (l : List ℕ). global < length l) (sym are.globals) is

  free_slot : (slot : ℕ) → is_free replaced.pinned slot ≡ true → slot < s.slots
  free_slot slot free =
      let within = free_below replaced.pinned slot free in
      let long = replaced.pins.as_many in
      let e = replaced.slots in
      omega (arith, within, long, e)

  operand_fine : (operand : Operand) → suits_operand replaced.pinned operand ≡ true → IsOperand s operand
  operand_fine (operands.Slot number) suits = free_slot number suits
  operand_fine (operands.Word word) suits = tt

  operand_still : (operand : Operand) → IsOperand r operand → IsOperand s operand
  operand_still (operands.Slot number) is = below_slots number is
  operand_still (operands.Word word) is = tt

  module _ (facts : List Fact) (all : are_suited replaced.pinned facts ≡ true) where
    operand_in : (operand : Operand) → IsOperand r operand → IsOperand s (simplified_operand facts operand)
    operand_in operand is = operand_has replaced.pinned (IsOperand s) operand_fine facts operand all (operand_still operand is)

    second_in : (operator : BinaryOperator) (operand : Operand) → IsOperand r operand → IsOperand s (right_operand facts operator (simplified_operand facts operand))
    second_in operator operand is =
        cond_both (takes_word operator) (small_or (word_in facts (simplified_operand facts operand)) (simplified_operand facts operand)) (simplified_operand facts operand) (IsOperand s)
        (λ takes. go (word_in facts (simplified_operand facts operand))) (λ not_taken. operand_in operand is)
      where
        go : (o : Option ℕ) → IsOperand s (small_or o (simplified_operand facts operand))
        go None = operand_in operand is
        go (Some word) = cond_both (nat_lt word 32768) (operands.Word word) (simplified_operand facts operand) (IsOperand s) (λ small. tt) (λ large. operand_in operand is)

    request_in : (request : Request) → IsRequestInRange r request → IsRequestInRange s (simplified_request facts request)
    request_in (requests.OpenLexical destination) is =
        record { answer_in_range = has_slots destination 2 is.answer_in_range; first_in_range = tt; second_in_range = tt }
    request_in (requests.CloseTo mark) is =
        record { answer_in_range = has_slots 0 0 is.answer_in_range; first_in_range = operand_in mark is.first_in_range; second_in_range = tt }
    request_in (requests.OpenDynamic destination) is =
        record { answer_in_range = has_slots destination 1 is.answer_in_range; first_in_range = tt; second_in_range = tt }
    request_in (requests.CloseDynamic handle) is =
        record { answer_in_range = has_slots 0 0 is.answer_in_range; first_in_range = operand_in handle is.first_in_range; second_in_range = tt }
    request_in (requests.Allocate destination handle words) is =
        record {
          answer_in_range = has_slots destination 1 is.answer_in_range;
          first_in_range = operand_in handle is.first_in_range;
          second_in_range = operand_in words is.second_in_range;
        }
    request_in (requests.Free address) is =
        record { answer_in_range = has_slots 0 0 is.answer_in_range; first_in_range = operand_in address is.first_in_range; second_in_range = tt }

    call_in_range : (function arguments count result : ℕ) → IsCallInRange program r function arguments count result → IsCallInRange simplified s function arguments count result
    call_in_range function arguments count result is =
        let callee = each_replaced program simplified are function in
        record {
          function_in_range = (let f = is.function_in_range in let l = are.as_many in omega (arith, f, l));
          takes = is.takes ∙ sym callee.parameters;
          arguments_in_range = has_slots arguments count is.arguments_in_range;
          result_in_range = (let f = is.result_in_range in let e = replaced.slots in let n = callee.results in omega (arith, f, e, n));
        }

    passed_in : (left right : Operand) (target : ℕ) → IsOperand s left → IsOperand s right → target < length s.code → IsInRange simplified s (passed_by left right target)
    passed_in (operands.Slot number) right target is other there = (is, is)
    passed_in (operands.Word word) (operands.Slot number) target is other there = (other, other)
    passed_in (operands.Word word) (operands.Word number) target is other there = (tt, tt, there)

    in_range : (i : Instruction) → IsInRange program r i → IsInRange simplified s (simplified_instruction facts i)
    in_range (instructions.Move destination source) (first, second) = go (is_known facts (facts_are.Equal destination (simplified_operand facts source)))
      where
        go : (b : Bool) → IsInRange simplified s (simplified_move b destination (simplified_operand facts source))
        go true = (below_slots destination first, below_slots destination first)
        go false = (below_slots destination first, operand_in source second)
    in_range (instructions.MoveWords destination source count) is =
        record {
          some = is.some;
          few = is.few;
          destination_in_range = has_slots destination count is.destination_in_range;
          source_in_range = has_slots source count is.source_in_range;
        }
    in_range (instructions.Unary operator destination operand) (first, second) = go (folded_unary facts operator (simplified_operand facts operand))
      where
        go : (o : Option ℕ) → IsInRange simplified s (simplified_unary o operator destination (simplified_operand facts operand))
        go (Some word) = (below_slots destination first, tt)
        go None = (below_slots destination first, operand_in operand second)
    in_range (instructions.Binary operator destination left right) (first, second, third) =
        go (folded_at facts operator destination (simplified_operand facts left) (right_operand facts operator (simplified_operand facts right))) (holder_in facts operator (simplified_operand facts left) (right_operand facts operator (simplified_operand facts right)))
        (holder_in_free replaced.pinned facts operator (simplified_operand facts left) (right_operand facts operator (simplified_operand facts right)) all)
      where
        go : (f o : Option ℕ) → IsFreeIfAny replaced.pinned o → IsInRange simplified s (simplified_binary f o operator destination (simplified_operand facts left) (right_operand facts operator (simplified_operand facts right)))
        go (Some word) o free = (below_slots destination first, tt)
        go None (Some slot) free = (below_slots destination first, free_slot slot free)
        go None None free = (below_slots destination first, operand_in left second, second_in operator right third)
    in_range (instructions.Jump target) is = in_code target is
    in_range (instructions.Branch comparison left right target) (first, second, third) = go (decision_in facts comparison (simplified_operand facts left) (simplified_operand facts right))
      where
        go : (o : Option Bool) → IsInRange simplified s (simplified_branch o comparison (simplified_operand facts left) (simplified_operand facts right) target)
        go (Some true) = in_code target third
        go (Some false) = passed_in (simplified_operand facts left) (simplified_operand facts right) target (operand_in left first) (operand_in right second) (in_code target third)
        go None = (operand_in left first, operand_in right second, in_code target third)
    in_range (instructions.Call function arguments count result) is = call_in_range function arguments count result is
    in_range (instructions.Return value) is = (let e = replaced.slots in let n = replaced.results in omega (arith, is, e, n))
    in_range (instructions.ReadByte destination) is = below_slots destination is
    in_range (instructions.WriteByte source) is = operand_in source is
    in_range (instructions.AddressOf destination slot count) (first, second, third) = (below_slots destination first, second, has_slots slot count third)
    in_range (instructions.LoadGlobal destination global) (first, second) =
        go (global_value facts (global_offset global)) (global_suits replaced.pinned facts (global_offset global) all)
      where
        go : (o : Option Operand) → SuitsIfAny replaced.pinned o → IsInRange simplified s (simplified_global o destination global)
        go (Some value) is = (below_slots destination first, operand_fine value is)
        go None is = (below_slots destination first, global_in global second)
    in_range (instructions.StoreGlobal global source) (first, second) = (global_in global first, operand_in source second)
    in_range (instructions.Load destination address offset) (first, second) =
        go (value_in facts (simplified_operand facts address) offset) (value_in_suits replaced.pinned facts (simplified_operand facts address) offset all)
      where
        go : (o : Option Operand) → SuitsIfAny replaced.pinned o → IsInRange simplified s (simplified_load o destination (simplified_operand facts address) offset)
        go (Some value) is = (below_slots destination first, operand_fine value is)
        go None is = (below_slots destination first, operand_in address second)
    in_range (instructions.Store address offset source) (first, second) = (operand_in address first, operand_in source second)
    in_range (instructions.LoadByte destination address offset) (first, second) = (below_slots destination first, operand_in address second)
    in_range (instructions.StoreByte address offset source) (first, second) = (operand_in address first, operand_in source second)
    in_range (instructions.Ask request) is = request_in request is
    in_range (instructions.CountLexical destination) is = below_slots destination is
    in_range (instructions.Try first handler) is = record {
      record_in_range = has_slots first RECORD_WORDS is.record_in_range;
      handler_in_range = in_code handler is.handler_in_range;
      no_return = all_put (λ i. is_return i ≡ false) (λ i. is_return i ≡ false) (λ facts all i none. same_return facts i ∙ none) (λ target below. refl) is.no_return;
    }
    in_range (instructions.Leave first) is = has_slots first RECORD_WORDS is
    in_range (instructions.Throw tag value) (first, second) = (operand_in tag first, operand_in value second)
    in_range (instructions.Finish value) is = (let e = replaced.slots in let n = replaced.results in omega (arith, is, e, n))
    in_range (instructions.Uncaught tag value) is = operand_in value is
    in_range (instructions.Enter function) is = (let l = are.as_many in omega (arith, is, l))

  last_leaves : (o : Option Instruction) → slice_get r.code (length r.code - 1) ≡ o → IsSomeAnd o (λ i. leaves i ≡ true) → IsSomeAnd (slice_get s.code (length s.code - 1)) (λ i. leaves i ≡ true)
  last_leaves None at none = absurd none
  last_leaves (Some i) at is =
      let same : length r.code - 1 ≡ length s.code - 1 = (let l = replaced.as_many in omega (arith, l)) in
      let last : ℕ = length r.code - 1 in
      let facts : List Fact = replaced.table last in
      let there : slice_get s.code (length s.code - 1) ≡ Some (put_at facts last (length r.code) i) =
      subst (λ (k : ℕ). slice_get s.code k ≡ Some (put_at facts last (length r.code) i)) same (replaced.each last i at) in
      subst (λ (o : Option Instruction). IsSomeAnd o (λ j. leaves j ≡ true)) (sym there)
      (cond_both (vanishes facts i) (instructions.Jump (place_after last (length r.code))) (simplified_instruction facts i) (λ j. leaves j ≡ true) (λ is_gone. refl) (λ stays. still_leaves facts i is))

  pub is_routine : IsRoutine program r → IsRoutine simplified s
  is_routine is = record {
    parameters = (let a = is.parameters in let p = replaced.parameters in let e = replaced.slots in omega (arith, a, p, e));
    results = (let a = is.results in let n = replaced.results in omega (arith, a, n));
    frame = (let a = is.frame in let f = replaced.frame_count in let e = replaced.slots in omega (arith, a, f, e));
    instructions = all_put (IsInRange program r) (IsInRange simplified s) in_range in_code is.instructions;
    last = last_leaves (slice_get r.code (length r.code - 1)) refl is.last;
  }

  pub words_of : All HasWord r.code → All HasWord s.code
  words_of all = all_put HasWord HasWord (λ facts suited i has. has_word replaced.pinned facts suited i has) (λ target below. tt) all

  pub is_like : IsLike r s
  is_like = record {
    name = replaced.name;
    parameters = replaced.parameters;
    results = replaced.results;
    slots = replaced.slots;
    frame_count = replaced.frame_count;
    as_many = replaced.as_many;
    small = replaced.small;
  }
