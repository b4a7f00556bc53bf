-- The size of a replacement is at most the size of the instruction that it replaces.
use Rattle.std.proofs.Common.{◌≡◌, ℕ, ◌≤◌, Bool, true, false, List, Option, Some, None, refl, arith}
use Rattle.std.proofs.lemmas.Bool.{cond_both}
use Rattle.cyc_plain.specs.declared.instruction.Instruction.{Instruction}
use Rattle.cyc_plain.specs.declared.instruction.Instruction.TheVariants as instructions
use Rattle.cyc_plain.specs.declared.instruction.Operand.{Operand}
use Rattle.cyc_plain.specs.declared.instruction.Request.{Request}
use Rattle.cyc_plain.specs.declared.instruction.Request.TheVariants as requests
use Rattle.cyc_plain.specs.declared.instruction.BinaryOperator.{BinaryOperator}
use Rattle.cyc_plain.specs.declared.instruction.BinaryOperator.TheVariants as binary
use Rattle.cyc_plain.specs.inside.Requests.{request_size}
use Rattle.cyc_plain.specs.inside.Program.{operator_size, instruction_size}
use Rattle.cyc_propagation.specs.declared.fact.Fact.{Fact}
use Rattle.cyc_propagation.specs.declared.fact.Fact.TheVariants as facts_are
use Rattle.cyc_propagation.specs.inside.Facts.{is_known, global_offset}
use Rattle.cyc_propagation.specs.inside.Replacement.{vanishes, place_after, put_at, simplified_operand, right_operand, folded_unary, simplified_unary}
use Rattle.cyc_propagation.specs.inside.Replacement.{folded_at, holder_in, simplified_binary, simplified_move, decision_in, simplified_branch, value_in, simplified_load, global_value, simplified_global, simplified_request, simplified_instruction}
use Rattle.cyc_propagation.proofs.Same.{passed_either}

-- The size counted for an instruction with a binary operator is at least 11 words.
eleven : (operator : BinaryOperator) → 11 ≤ operator_size operator
eleven binary.Divide = omega arith
eleven binary.Remainder = omega arith
eleven operator = omega arith

same_request_size : (facts : List Fact) (request : Request) → request_size (simplified_request facts request) ≡ request_size request
same_request_size facts (requests.OpenLexical destination) = refl
same_request_size facts (requests.CloseTo mark) = refl
same_request_size facts (requests.OpenDynamic destination) = refl
same_request_size facts (requests.CloseDynamic handle) = refl
same_request_size facts (requests.Allocate destination handle words) = refl
same_request_size facts (requests.Free address) = refl

-- `IsNoLarger` says that the size of the new instruction is at most that of the original one.
abbrev IsNoLarger : (given put : Instruction) → Type 0
IsNoLarger i j = instruction_size j ≤ instruction_size i

not_larger : (facts : List Fact) (i : Instruction) → IsNoLarger i (simplified_instruction facts i)
not_larger facts (instructions.Move destination source) = go (is_known facts (facts_are.Equal destination (simplified_operand facts source)))
  where
    i : Instruction
    i = instructions.Move destination source

    go : (b : Bool) → IsNoLarger i (simplified_move b destination (simplified_operand facts source))
    go true = omega arith
    go false = omega arith
not_larger facts (instructions.Binary operator destination left right) = go (folded_at facts operator destination (simplified_operand facts left) (right_operand facts operator (simplified_operand facts right))) (holder_in facts operator (simplified_operand facts left) (right_operand facts operator (simplified_operand facts right)))
  where
    i : Instruction
    i = instructions.Binary operator destination left right

    go : (f o : Option ℕ) → IsNoLarger i (simplified_binary f o operator destination (simplified_operand facts left) (right_operand facts operator (simplified_operand facts right)))
    go (Some word) o = omega (arith, eleven operator)
    go None (Some slot) = omega (arith, eleven operator)
    go None None = omega arith
not_larger facts (instructions.Branch comparison left right target) = go (decision_in facts comparison (simplified_operand facts left) (simplified_operand facts right))
  where
    i : Instruction
    i = instructions.Branch comparison left right target

    go : (o : Option Bool) → IsNoLarger i (simplified_branch o comparison (simplified_operand facts left) (simplified_operand facts right) target)
    go (Some true) = omega arith
    go (Some false) = passed_either (IsNoLarger i) (simplified_operand facts left) (simplified_operand facts right) target (λ slot. omega arith) (omega arith)
    go None = omega arith
not_larger facts (instructions.Load destination address offset) = go (value_in facts (simplified_operand facts address) offset)
  where
    i : Instruction
    i = instructions.Load destination address offset

    go : (o : Option Operand) → IsNoLarger i (simplified_load o destination (simplified_operand facts address) offset)
    go (Some value) = omega arith
    go None = omega arith
not_larger facts (instructions.LoadGlobal destination global) = go (global_value facts (global_offset global))
  where
    go : (o : Option Operand) → IsNoLarger (instructions.LoadGlobal destination global) (simplified_global o destination global)
    go (Some value) = omega arith
    go None = omega arith
not_larger facts (instructions.Unary operator destination operand) = go (folded_unary facts operator (simplified_operand facts operand))
  where
    go : (o : Option ℕ) → IsNoLarger (instructions.Unary operator destination operand) (simplified_unary o operator destination (simplified_operand facts operand))
    go (Some word) = omega arith
    go None = omega arith
not_larger facts (instructions.Ask request) = omega (arith, same_request_size facts request)
not_larger facts i = omega arith

-- The size of a jump is at most that of any instruction that it replaces.
jump_not_larger : (i : Instruction) (target : ℕ) → IsNoLarger i (instructions.Jump target)
jump_not_larger (instructions.Binary operator destination left right) target = omega (arith, eleven operator)
jump_not_larger i target = omega arith

pub put_not_larger : (facts : List Fact) (index count : ℕ) (i : Instruction) → IsNoLarger i (put_at facts index count i)
put_not_larger facts index count i =
    cond_both (vanishes facts i) (instructions.Jump (place_after index count)) (simplified_instruction facts i) (IsNoLarger i)
    (λ is. jump_not_larger i (place_after index count))
    (λ stays. not_larger facts i)
