-- This file proves that the length of code does not depend on its jump targets.
use Rattle.std.proofs.Common.{◌≡◌, ℕ, suc, ◌+◌, Bool, true, false, length-append, List, [], ◌∷◌, length, refl, arith}
use Rattle.std.specs.Prelude.{if◌then◌else◌}
use Rattle.cyc_types.specs.declared.typed.UnaryOperator.TheVariants as unary
use Rattle.cyc_types.specs.declared.typed.LogicalOperator.{LogicalOperator}
use Rattle.cyc_types.specs.TypedTrees.{Expression, Unary, Binary, Operations, ThenCompute, ThenTest, ThenPointer, ThenPointerPeek, NoOperations}
use Rattle.cyc_plain.specs.declared.instruction.Instruction.{Instruction}
use Rattle.cyc_lower_proof.specs.declared.condition.Condition.{Condition}
use Rattle.cyc_lower_proof.specs.inside.Slots.{Starts}
use Rattle.cyc_lower_proof.specs.inside.ControlCode.{deciding_jump, turned_test, are_tests, entry_code, entry_length, over_code, over_length}
use Rattle.cyc_lower_proof.specs.inside.Lowering.{condition_code, condition_of, others_code, tests_code, choice_code, branch_code}

pub entry_long : (guarded : Bool) (condition : List Instruction) (jump : ℕ → Instruction) (test p : ℕ) → length (entry_code guarded condition jump test p) ≡ entry_length guarded condition
entry_long true condition jump test p = length-append condition (jump (p + length condition + 1 + 1) ∷ [])
entry_long false condition jump test p = refl

pub over_length_is : (last : Bool) (target : ℕ) → length (over_code last target) ≡ over_length last
over_length_is true target = refl
over_length_is false target = refl

module _ (starts : Starts) where
  -- The length of the code for the operands after the first one in a chain of `&&` or of `||` does not depend on the jump targets.
  others_same : (u : LogicalOperator) (os : Operations) (c : Condition) (x y p t : ℕ) → length (others_code starts u os c x p t) ≡ length (others_code starts u os c y p t)
  others_same u NoOperations c x y p t = refl
  others_same u (ThenTest o b os) c x y p t =
      let operand = condition_code starts b (p + 1) t in
      let q = p + suc (length operand) in
      let first = others_code starts u os (condition_of starts b t) x q t in
      let second = others_code starts u os (condition_of starts b t) y q t in
      omega (arith, length-append (deciding_jump u c x ∷ operand) first, length-append (deciding_jump u c y ∷ operand) second, others_same u os (condition_of starts b t) x y q t)
  others_same u (ThenCompute o b os) c x y p t = others_same u os c x y p t
  others_same u (ThenPointer o b os) c x y p t = others_same u os c x y p t
  others_same u (ThenPointerPeek n o b os) c x y p t = others_same u os c x y p t

  pub tests_same : (u : LogicalOperator) (a : Expression) (os : Operations) (x y p t : ℕ) → length (tests_code starts u a os x p t) ≡ length (tests_code starts u a os y p t)
  tests_same u a os x y p t =
      let first = condition_code starts a p t in
      let q = p + length first in
      let c = condition_of starts a t in
      omega (arith, length-append first (others_code starts u os c x q t), length-append first (others_code starts u os c y q t), others_same u os c x y q t)

  pub branch_same : (u : LogicalOperator) (a : Expression) (x y p t : ℕ) → length (branch_code starts u a x p t) ≡ length (branch_code starts u a y p t)
  branch_same u (Unary unary.Not a) x y p t = branch_same (turned_test u) a x y p t
  branch_same u (Binary a os ty) x y p t = by (are_tests u os)
    where
      by : (tests : Bool) → length (if tests then tests_code starts u a os x p t else choice_code starts (turned_test u) (Binary a os ty) p t)
          ≡ length (if tests then tests_code starts u a os y p t else choice_code starts (turned_test u) (Binary a os ty) p t)
      by true = tests_same u a os x y p t
      by false = refl
  branch_same u a x y p t = refl
