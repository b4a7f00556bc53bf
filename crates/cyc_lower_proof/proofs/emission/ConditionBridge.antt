-- This file proves that the code of a condition is where the simulation relation requires it.
use Rattle.std.specs.Prelude.{if◌then◌else◌}
use Rattle.std.proofs.Common.{◌≡◌, ℕ, suc, ◌+◌, Bool, true, false, inl, inr, List, ◌∷◌, length, Option, None, Some, refl, sym, ap, subst, arith}
use Rattle.cyc_types.specs.declared.typed.UnaryOperator.TheVariants as unary
use Rattle.cyc_types.specs.declared.typed.LogicalOperator.TheVariants as logical
use Rattle.cyc_types.specs.Types.{Ty, words_of}
use Rattle.cyc_types.specs.TypedTrees.{Expression, Unary, Binary, Operations, NoOperations, ThenCompute, ThenTest, ThenPointer, ThenPointerPeek, type_of}
use Rattle.cyc_types.specs.Numbered.{Numbering}
use Rattle.cyc_plain.specs.declared.instruction.Comparison.{Comparison}
use Rattle.cyc_plain.specs.declared.instruction.Operand.TheVariants as operands
use Rattle.cyc_plain.specs.declared.instruction.Instruction.{Instruction}
use Rattle.cyc_plain.specs.declared.instruction.Instruction.TheVariants as instructions
use Rattle.cyc_plain.specs.inside.Straight.{At, HasAt}
use Rattle.cyc_plain.proofs.Straight.{has_front, has_back}
use Rattle.cyc_meaning.specs.FrameCount.{operand_words, words_of_all}
use Rattle.cyc_lower_proof.specs.inside.Slots.{Types, starts_of}
use Rattle.cyc_lower_proof.specs.inside.ValueCode.{left_with, failing_comparison}
use Rattle.cyc_lower_proof.specs.inside.ControlCode.{compared_of, failing_jump, holding_jump, all_test, are_tests, null_compared, pointers_failing, nulled_or}
use Rattle.cyc_lower_proof.specs.inside.ExpressionCode.{operand_of, value_slot, slot_with, value_operand, expression_code, is_simple}
use Rattle.cyc_lower_proof.specs.inside.Lowering.{first_operand, first_code, second_code, pair_code, condition_code, condition_of, others_code, last_condition, tests_code, after_tests, choice_code, choice_of, branch_code, branch_of}
use Rattle.cyc_lower_proof.specs.declared.condition.Condition.{Condition}
use Rattle.cyc_lower_proof.proofs.relation.code.Stands.{PairAt, ConditionAt, ForkAt, BranchesAt, TestsAt, Ends, LeftBy}
use Rattle.cyc_lower_proof.proofs.relation.code.Fitting.{Fits, FitOperations}
use Rattle.cyc_lower_proof.proofs.relation.code.Tested.{compared_whole}
use Rattle.cyc_lower_proof.proofs.value_steps.ValueWords.{opposite_twice}
use Rattle.cyc_lower_proof.proofs.emission.CodeLengths.{tests_same}
use Rattle.cyc_lower_proof.proofs.emission.Blocks.{BlocksStand}
use Rattle.cyc_lower_proof.proofs.emission.OperandBridge.{cut, operand_by, right_by, left_first}
use Rattle.cyc_lower_proof.proofs.emission.ExpressionBridge.{expression_stands}

module _ (code : List Instruction) (b : Numbering) (types : Types) (raised : BlocksStand code types.raises (words_of_all types.locals)) where
  -- The code of the two compared operands is where the simulation relation requires it.
  pair_stands : (a c : Expression) (t p q : ℕ) → Fits b types a → Fits b types c → p + length (pair_code (starts_of types) a c p t) ≡ q → HasAt code p (pair_code (starts_of types) a c p t)
      → PairAt code b types a c (first_operand (starts_of types) a c t) (value_operand (starts_of types) c (suc t)) t p q
  pair_stands a c t p q numbered_a numbered_c end has =
      let slot = slot_with (starts_of types) (is_simple (starts_of types) c) a t in
      let front = first_code (starts_of types) a c p t in
      let m = p + length front in
      let back = second_code (starts_of types) c m t in (
        m,
        operand_by code b types raised (left_with (is_simple (starts_of types) c) (operand_of (starts_of types) a)) _ (expression_code (starts_of types) a p slot t) slot p m refl (has_front code p front back has) (λ e h. expression_stands code b types raised a slot t p m numbered_a e h),
        right_by code b types raised (operand_of (starts_of types) c) (LeftBy code b types (is_simple (starts_of types) c) (first_operand (starts_of types) a c t ≡ operands.Slot t)) _ (expression_code (starts_of types) c m (value_slot (starts_of types) c (suc t)) (suc t)) (value_slot (starts_of types) c (suc t)) m q (left_first code b types raised (is_simple (starts_of types) c) a t)
            (cut p q front back end) (has_back code p front back has) (λ e h. expression_stands code b types raised c (value_slot (starts_of types) c (suc t)) (suc t) m q numbered_c e h),
      )

  -- The operands of a condition's comparison refer only to locals and functions that exist.
  sides_numbered : (null beside : Option Comparison) (a c whole : Expression) → Fits b types a → Fits b types c → Fits b types whole
      → Fits b types (nulled_or null beside a c whole).left × Fits b types (nulled_or null beside a c whole).right
  sides_numbered (Some failing) beside a c whole first second all = (first, tt)
  sides_numbered None (Some failing) a c whole first second all = (first, second)
  sides_numbered None None a c whole first second all = (all, tt)

  compared_numbered : (a : Expression) → Fits b types a → Fits b types (compared_of a).left × Fits b types (compared_of a).right
  compared_numbered (Unary unary.Not a) numbered = compared_numbered a numbered
  compared_numbered (Binary a (ThenCompute o c NoOperations) ty) (first, (second, none)) =
      sides_numbered None (failing_comparison o) a c (Binary a (ThenCompute o c NoOperations) ty) first second (first, (second, none))
  compared_numbered (Binary a (ThenPointer o c NoOperations) ty) (first, (wide, second, none)) =
      sides_numbered (null_compared o c) (pointers_failing o) a c (Binary a (ThenPointer o c NoOperations) ty) first second (first, (wide, second, none))
  compared_numbered (Binary a (ThenPointerPeek n o c NoOperations) ty) (first, (wide, second, none)) =
      sides_numbered (null_compared o c) (pointers_failing o) a c (Binary a (ThenPointerPeek n o c NoOperations) ty) first second (first, (wide, second, none))
  compared_numbered a numbered = (numbered, tt)

  condition_stands : (a : Expression) (t p q : ℕ) → Fits b types a → p + length (condition_code (starts_of types) a p t) ≡ q → HasAt code p (condition_code (starts_of types) a p t)
      → ConditionAt code b types a (condition_of (starts_of types) a t).left (condition_of (starts_of types) a t).right t p q
  condition_stands a t p q numbered end has =
      let (first, second) = compared_numbered a numbered in
      pair_stands (compared_of a).left (compared_of a).right t p q first second end has

  -- In a chain of tests by `||`, control continues at the next instruction if one operand holds.
  all_through : (os : Operations) (f h t : ℕ) → all_test logical.OrElse os ≡ true → TestsAt code b types os false t h (Ends code b types f h)
  all_through NoOperations f h t all = refl
  all_through (ThenTest logical.OrElse c os) f h t all = all_through os f h t all
  all_through (ThenTest logical.AndThen c os) f h t all = absurd (let z : false ≡ true = all in cc)
  all_through (ThenCompute o c os) f h t all = absurd (let z : false ≡ true = all in cc)
  all_through (ThenPointer o c os) f h t all = absurd (let z : false ≡ true = all in cc)
  all_through (ThenPointerPeek n o c os) f h t all = absurd (let z : false ≡ true = all in cc)

  -- The code of a condition that may be a chain of `&&` or of `||`: the code of the operands after the first one begins at position p,
  -- and the jump for the last operand is at position q.
  others_stand : (os : Operations) (ty : Ty) (words : ℕ) (o : Condition) (f t p q : ℕ) → all_test logical.OrElse os ≡ true → FitOperations b types words ty os
      → p + length (others_code (starts_of types) logical.OrElse os o (q + 1) p t) ≡ q → HasAt code p (others_code (starts_of types) logical.OrElse os o (q + 1) p t)
      → At code q (failing_jump (last_condition (starts_of types) os o t) f)
      → (x : ℕ) × (y : ℕ) × ForkAt code b types o.failing o.left o.right p x y × TestsAt code b types os true t x (Ends code b types f (q + 1)) × TestsAt code b types os false t y (Ends code b types f (q + 1))
  others_stand NoOperations ty words o f t p q all fits end has jump =
      let here : p ≡ q = omega (arith, end) in
      (f, q + 1, inl (subst (λ n. At code n (failing_jump o f)) (sym here) jump, ap (λ n. n + 1) here), refl, refl)
  others_stand (ThenTest logical.OrElse a os) ty words o f t p q all (first, fits) end has jump =
      let next = condition_of (starts_of types) a t in
      let operand = condition_code (starts_of types) a (p + 1) t in
      let front = holding_jump o (q + 1) ∷ operand in
      let m = p + length front in
      let rest = others_code (starts_of types) logical.OrElse os next (q + 1) m t in
      let (leads, has_operand) = has_front code p front rest has in
      let (x, y, fork, fails, passes) = others_stand os ty (words_of ty) next f t m q all fits (cut p q front rest end) (has_back code p front rest has) jump in
      let there = condition_stands a t (p + 1) m first (omega arith) has_operand in
      let tried : BranchesAt code b types a x y t (p + 1) = compared_whole code b types a x y t (p + 1) (next.left, next.right, m, there, fork) in
      (p + 1, q + 1, inr (leads, refl), (x, y, tried, fails, passes), all_through os f (q + 1) t all)
  others_stand (ThenTest logical.AndThen a os) ty words o f t p q all fits end has jump = absurd (let z : false ≡ true = all in cc)
  others_stand (ThenCompute u a os) ty words o f t p q all fits end has jump = absurd (let z : false ≡ true = all in cc)
  others_stand (ThenPointer u a os) ty words o f t p q all fits end has jump = absurd (let z : false ≡ true = all in cc)
  others_stand (ThenPointerPeek n u a os) ty words o f t p q all fits end has jump = absurd (let z : false ≡ true = all in cc)

  tests_stand : (a : Expression) (os : Operations) (ty : Ty) (f t p q : ℕ) → are_tests logical.OrElse os ≡ true → Fits b types (Binary a os ty)
      → p + length (tests_code (starts_of types) logical.OrElse a os (q + 1) p t) ≡ q → HasAt code p (tests_code (starts_of types) logical.OrElse a os (q + 1) p t)
      → At code q (failing_jump (last_condition (starts_of types) os (condition_of (starts_of types) a t) t) f) → BranchesAt code b types (Binary a os ty) f (q + 1) t p
  tests_stand a (ThenTest u c os) ty f t p q all (first, fits) end has jump =
      let front = condition_code (starts_of types) a p t in
      let m = p + length front in
      let next = condition_of (starts_of types) a t in
      let rest = others_code (starts_of types) logical.OrElse (ThenTest u c os) next (q + 1) m t in
      let (x, y, fork, fails, passes) = others_stand (ThenTest u c os) ty (operand_words (type_of a)) next f t m q all fits (cut p q front rest end) (has_back code p front rest has) jump in
      inr (x, y, compared_whole code b types a x y t p (next.left, next.right, m, condition_stands a t p m first refl (has_front code p front rest has), fork), fails, passes)
  tests_stand a NoOperations ty f t p q all fits end has jump = absurd (let z : false ≡ true = all in cc)
  tests_stand a (ThenCompute u c os) ty f t p q all fits end has jump = absurd (let z : false ≡ true = all in cc)
  tests_stand a (ThenPointer u c os) ty f t p q all fits end has jump = absurd (let z : false ≡ true = all in cc)
  tests_stand a (ThenPointerPeek n u c os) ty f t p q all fits end has jump = absurd (let z : false ≡ true = all in cc)

  -- A chain of tests by `&&` with the jump that is taken if the last operand holds; if an operand fails, control continues after the chain.
  all_over : (os : Operations) (f h t : ℕ) → all_test logical.AndThen os ≡ true → TestsAt code b types os true t f (Ends code b types f h)
  all_over NoOperations f h t all = refl
  all_over (ThenTest logical.AndThen c os) f h t all = all_over os f h t all
  all_over (ThenTest logical.OrElse c os) f h t all = absurd (let z : false ≡ true = all in cc)
  all_over (ThenCompute o c os) f h t all = absurd (let z : false ≡ true = all in cc)
  all_over (ThenPointer o c os) f h t all = absurd (let z : false ≡ true = all in cc)
  all_over (ThenPointerPeek n o c os) f h t all = absurd (let z : false ≡ true = all in cc)

  others_follow : (os : Operations) (ty : Ty) (words : ℕ) (o : Condition) (h t p q : ℕ) → all_test logical.AndThen os ≡ true → FitOperations b types words ty os
      → p + length (others_code (starts_of types) logical.AndThen os o (q + 1) p t) ≡ q → HasAt code p (others_code (starts_of types) logical.AndThen os o (q + 1) p t)
      → At code q (holding_jump (last_condition (starts_of types) os o t) h)
      → (x : ℕ) × (y : ℕ) × ForkAt code b types o.failing o.left o.right p x y × TestsAt code b types os true t x (Ends code b types (q + 1) h) × TestsAt code b types os false t y (Ends code b types (q + 1) h)
  others_follow NoOperations ty words o h t p q all fits end has jump =
      let here : p ≡ q = omega (arith, end) in
      (q + 1, h, inr (subst (λ n. At code n (holding_jump o h)) (sym here) jump, ap (λ n. n + 1) here), refl, refl)
  others_follow (ThenTest logical.AndThen a os) ty words o h t p q all (first, fits) end has jump =
      let next = condition_of (starts_of types) a t in
      let operand = condition_code (starts_of types) a (p + 1) t in
      let front = failing_jump o (q + 1) ∷ operand in
      let m = p + length front in
      let rest = others_code (starts_of types) logical.AndThen os next (q + 1) m t in
      let (leads, has_operand) = has_front code p front rest has in
      let (x, y, fork, fails, passes) = others_follow os ty (words_of ty) next h t m q all fits (cut p q front rest end) (has_back code p front rest has) jump in
      let there = condition_stands a t (p + 1) m first (omega arith) has_operand in
      let tried : BranchesAt code b types a x y t (p + 1) = compared_whole code b types a x y t (p + 1) (next.left, next.right, m, there, fork) in
      (q + 1, p + 1, inl (leads, refl), all_over os (q + 1) h t all, (x, y, tried, fails, passes))
  others_follow (ThenTest logical.OrElse a os) ty words o h t p q all fits end has jump = absurd (let z : false ≡ true = all in cc)
  others_follow (ThenCompute u a os) ty words o h t p q all fits end has jump = absurd (let z : false ≡ true = all in cc)
  others_follow (ThenPointer u a os) ty words o h t p q all fits end has jump = absurd (let z : false ≡ true = all in cc)
  others_follow (ThenPointerPeek n u a os) ty words o h t p q all fits end has jump = absurd (let z : false ≡ true = all in cc)

  tests_follow : (a : Expression) (os : Operations) (ty : Ty) (h t p q : ℕ) → are_tests logical.AndThen os ≡ true → Fits b types (Binary a os ty)
      → p + length (tests_code (starts_of types) logical.AndThen a os (q + 1) p t) ≡ q → HasAt code p (tests_code (starts_of types) logical.AndThen a os (q + 1) p t)
      → At code q (holding_jump (last_condition (starts_of types) os (condition_of (starts_of types) a t) t) h) → BranchesAt code b types (Binary a os ty) (q + 1) h t p
  tests_follow a (ThenTest u c os) ty h t p q all (first, fits) end has jump =
      let front = condition_code (starts_of types) a p t in
      let m = p + length front in
      let next = condition_of (starts_of types) a t in
      let rest = others_code (starts_of types) logical.AndThen (ThenTest u c os) next (q + 1) m t in
      let (x, y, fork, fails, passes) = others_follow (ThenTest u c os) ty (operand_words (type_of a)) next h t m q all fits (cut p q front rest end) (has_back code p front rest has) jump in
      inr (x, y, compared_whole code b types a x y t p (next.left, next.right, m, condition_stands a t p m first refl (has_front code p front rest has), fork), fails, passes)
  tests_follow a NoOperations ty h t p q all fits end has jump = absurd (let z : false ≡ true = all in cc)
  tests_follow a (ThenCompute u c os) ty h t p q all fits end has jump = absurd (let z : false ≡ true = all in cc)
  tests_follow a (ThenPointer u c os) ty h t p q all fits end has jump = absurd (let z : false ≡ true = all in cc)
  tests_follow a (ThenPointerPeek n u c os) ty h t p q all fits end has jump = absurd (let z : false ≡ true = all in cc)

  -- A condition that is one comparison has a jump that is taken if the comparison fails, or one that is taken if it holds.
  whole_stands : (a : Expression) (f t p q : ℕ) → Fits b types a → p + length (condition_code (starts_of types) a p t) ≡ q → HasAt code p (condition_code (starts_of types) a p t)
      → At code q (failing_jump (condition_of (starts_of types) a t) f) → BranchesAt code b types a f (q + 1) t p
  whole_stands a f t p q fits end has jump =
      compared_whole code b types a f (q + 1) t p ((condition_of (starts_of types) a t).left, (condition_of (starts_of types) a t).right, q, condition_stands a t p q fits end has, inl (jump, refl))

  whole_follows : (a : Expression) (h t p q : ℕ) → Fits b types a → p + length (condition_code (starts_of types) a p t) ≡ q → HasAt code p (condition_code (starts_of types) a p t)
      → At code q (holding_jump (condition_of (starts_of types) a t) h) → BranchesAt code b types a (q + 1) h t p
  whole_follows a h t p q fits end has jump =
      compared_whole code b types a (q + 1) h t p ((condition_of (starts_of types) a t).left, (condition_of (starts_of types) a t).right, q, condition_stands a t p q fits end has, inr (jump, refl))

  mutual
    -- A condition that may be a chain of tests has a jump that is taken if the condition fails.
    pub choice_stands : (a : Expression) (f t p q : ℕ) → Fits b types a → p + length (choice_code (starts_of types) logical.OrElse a p t) ≡ q → HasAt code p (choice_code (starts_of types) logical.OrElse a p t)
        → At code q (failing_jump (choice_of (starts_of types) logical.OrElse a t) f) → BranchesAt code b types a f (q + 1) t p
    choice_stands (Unary unary.Not a) f t p q fits end has jump = inr (choice_follows a f t p q fits end has jump)
    choice_stands (Binary a os ty) f t p q fits end has jump = chain (are_tests logical.OrElse os) refl end has jump
      where
        chain : (tests : Bool) → are_tests logical.OrElse os ≡ tests
            → p + length (if tests then tests_code (starts_of types) logical.OrElse a os (after_tests (starts_of types) logical.OrElse a os p t) p t else condition_code (starts_of types) (Binary a os ty) p t) ≡ q
            → HasAt code p (if tests then tests_code (starts_of types) logical.OrElse a os (after_tests (starts_of types) logical.OrElse a os p t) p t else condition_code (starts_of types) (Binary a os ty) p t)
            → At code q (failing_jump (if tests then last_condition (starts_of types) os (condition_of (starts_of types) a t) t else condition_of (starts_of types) (Binary a os ty) t) f)
            → BranchesAt code b types (Binary a os ty) f (q + 1) t p
        chain false is end has jump = whole_stands (Binary a os ty) f t p q fits end has jump
        chain true is end has jump =
            let made : ℕ → List Instruction = λ x. tests_code (starts_of types) logical.OrElse a os x p t in
            let there : after_tests (starts_of types) logical.OrElse a os p t ≡ q + 1 = omega (arith, end, tests_same (starts_of types) logical.OrElse a os 0 (after_tests (starts_of types) logical.OrElse a os p t) p t) in
            tests_stand a os ty f t p q is fits (subst (λ x. p + length (made x) ≡ q) there end) (subst (λ x. HasAt code p (made x)) there has) jump
    choice_stands a f t p q fits end has jump = whole_stands a f t p q fits end has jump

    -- A condition that may be a chain of tests has a jump that is taken if the condition holds.
    pub choice_follows : (a : Expression) (h t p q : ℕ) → Fits b types a → p + length (choice_code (starts_of types) logical.AndThen a p t) ≡ q → HasAt code p (choice_code (starts_of types) logical.AndThen a p t)
        → At code q (holding_jump (choice_of (starts_of types) logical.AndThen a t) h) → BranchesAt code b types a (q + 1) h t p
    choice_follows (Unary unary.Not a) h t p q fits end has jump =
        let made = choice_of (starts_of types) logical.OrElse a t in
        inr (choice_stands a h t p q fits end has (subst (λ (c : Comparison). At code q (instructions.Branch c made.left made.right h)) (opposite_twice made.failing) jump))
    choice_follows (Binary a os ty) h t p q fits end has jump = chain (are_tests logical.AndThen os) refl end has jump
      where
        chain : (tests : Bool) → are_tests logical.AndThen os ≡ tests
            → p + length (if tests then tests_code (starts_of types) logical.AndThen a os (after_tests (starts_of types) logical.AndThen a os p t) p t else condition_code (starts_of types) (Binary a os ty) p t) ≡ q
            → HasAt code p (if tests then tests_code (starts_of types) logical.AndThen a os (after_tests (starts_of types) logical.AndThen a os p t) p t else condition_code (starts_of types) (Binary a os ty) p t)
            → At code q (holding_jump (if tests then last_condition (starts_of types) os (condition_of (starts_of types) a t) t else condition_of (starts_of types) (Binary a os ty) t) h)
            → BranchesAt code b types (Binary a os ty) (q + 1) h t p
        chain false is end has jump = whole_follows (Binary a os ty) h t p q fits end has jump
        chain true is end has jump =
            let made : ℕ → List Instruction = λ x. tests_code (starts_of types) logical.AndThen a os x p t in
            let there : after_tests (starts_of types) logical.AndThen a os p t ≡ q + 1 = omega (arith, end, tests_same (starts_of types) logical.AndThen a os 0 (after_tests (starts_of types) logical.AndThen a os p t) p t) in
            tests_follow a os ty h t p q is fits (subst (λ x. p + length (made x) ≡ q) there end) (subst (λ x. HasAt code p (made x)) there has) jump
    choice_follows a h t p q fits end has jump = whole_follows a h t p q fits end has jump

  -- The condition of a branch with the jump that is taken if the condition fails. Each failing operand of `&&` jumps to the target of
  -- this jump.
  others_fail : (os : Operations) (ty : Ty) (words : ℕ) (o : Condition) (f t p q : ℕ) → all_test logical.AndThen os ≡ true → FitOperations b types words ty os
      → p + length (others_code (starts_of types) logical.AndThen os o f p t) ≡ q → HasAt code p (others_code (starts_of types) logical.AndThen os o f p t)
      → At code q (failing_jump (last_condition (starts_of types) os o t) f)
      → (x : ℕ) × (y : ℕ) × ForkAt code b types o.failing o.left o.right p x y × TestsAt code b types os true t x (Ends code b types f (q + 1)) × TestsAt code b types os false t y (Ends code b types f (q + 1))
  others_fail NoOperations ty words o f t p q all fits end has jump =
      let here : p ≡ q = omega (arith, end) in
      (f, q + 1, inl (subst (λ n. At code n (failing_jump o f)) (sym here) jump, ap (λ n. n + 1) here), refl, refl)
  others_fail (ThenTest logical.AndThen a os) ty words o f t p q all (first, fits) end has jump =
      let next = condition_of (starts_of types) a t in
      let operand = condition_code (starts_of types) a (p + 1) t in
      let front = failing_jump o f ∷ operand in
      let m = p + length front in
      let rest = others_code (starts_of types) logical.AndThen os next f m t in
      let (leads, has_operand) = has_front code p front rest has in
      let (x, y, fork, fails, passes) = others_fail os ty (words_of ty) next f t m q all fits (cut p q front rest end) (has_back code p front rest has) jump in
      let there = condition_stands a t (p + 1) m first (omega arith) has_operand in
      let tried : BranchesAt code b types a x y t (p + 1) = compared_whole code b types a x y t (p + 1) (next.left, next.right, m, there, fork) in
      (f, p + 1, inl (leads, refl), all_over os f (q + 1) t all, (x, y, tried, fails, passes))
  others_fail (ThenTest logical.OrElse a os) ty words o f t p q all fits end has jump = absurd (let z : false ≡ true = all in cc)
  others_fail (ThenCompute u a os) ty words o f t p q all fits end has jump = absurd (let z : false ≡ true = all in cc)
  others_fail (ThenPointer u a os) ty words o f t p q all fits end has jump = absurd (let z : false ≡ true = all in cc)
  others_fail (ThenPointerPeek n u a os) ty words o f t p q all fits end has jump = absurd (let z : false ≡ true = all in cc)

  tests_fail : (a : Expression) (os : Operations) (ty : Ty) (f t p q : ℕ) → are_tests logical.AndThen os ≡ true → Fits b types (Binary a os ty)
      → p + length (tests_code (starts_of types) logical.AndThen a os f p t) ≡ q → HasAt code p (tests_code (starts_of types) logical.AndThen a os f p t)
      → At code q (failing_jump (last_condition (starts_of types) os (condition_of (starts_of types) a t) t) f) → BranchesAt code b types (Binary a os ty) f (q + 1) t p
  tests_fail a (ThenTest u c os) ty f t p q all (first, fits) end has jump =
      let front = condition_code (starts_of types) a p t in
      let m = p + length front in
      let next = condition_of (starts_of types) a t in
      let rest = others_code (starts_of types) logical.AndThen (ThenTest u c os) next f m t in
      let (x, y, fork, fails, passes) = others_fail (ThenTest u c os) ty (operand_words (type_of a)) next f t m q all fits (cut p q front rest end) (has_back code p front rest has) jump in
      inr (x, y, compared_whole code b types a x y t p (next.left, next.right, m, condition_stands a t p m first refl (has_front code p front rest has), fork), fails, passes)
  tests_fail a NoOperations ty f t p q all fits end has jump = absurd (let z : false ≡ true = all in cc)
  tests_fail a (ThenCompute u c os) ty f t p q all fits end has jump = absurd (let z : false ≡ true = all in cc)
  tests_fail a (ThenPointer u c os) ty f t p q all fits end has jump = absurd (let z : false ≡ true = all in cc)
  tests_fail a (ThenPointerPeek n u c os) ty f t p q all fits end has jump = absurd (let z : false ≡ true = all in cc)

  -- The condition of a branch that is a chain of `||`, with the jump that is taken if the condition holds.
  others_hold : (os : Operations) (ty : Ty) (words : ℕ) (o : Condition) (h t p q : ℕ) → all_test logical.OrElse os ≡ true → FitOperations b types words ty os
      → p + length (others_code (starts_of types) logical.OrElse os o h p t) ≡ q → HasAt code p (others_code (starts_of types) logical.OrElse os o h p t)
      → At code q (holding_jump (last_condition (starts_of types) os o t) h)
      → (x : ℕ) × (y : ℕ) × ForkAt code b types o.failing o.left o.right p x y × TestsAt code b types os true t x (Ends code b types (q + 1) h) × TestsAt code b types os false t y (Ends code b types (q + 1) h)
  others_hold NoOperations ty words o h t p q all fits end has jump =
      let here : p ≡ q = omega (arith, end) in
      (q + 1, h, inr (subst (λ n. At code n (holding_jump o h)) (sym here) jump, ap (λ n. n + 1) here), refl, refl)
  others_hold (ThenTest logical.OrElse a os) ty words o h t p q all (first, fits) end has jump =
      let next = condition_of (starts_of types) a t in
      let operand = condition_code (starts_of types) a (p + 1) t in
      let front = holding_jump o h ∷ operand in
      let m = p + length front in
      let rest = others_code (starts_of types) logical.OrElse os next h m t in
      let (leads, has_operand) = has_front code p front rest has in
      let (x, y, fork, fails, passes) = others_hold os ty (words_of ty) next h t m q all fits (cut p q front rest end) (has_back code p front rest has) jump in
      let there = condition_stands a t (p + 1) m first (omega arith) has_operand in
      let tried : BranchesAt code b types a x y t (p + 1) = compared_whole code b types a x y t (p + 1) (next.left, next.right, m, there, fork) in
      (p + 1, h, inr (leads, refl), (x, y, tried, fails, passes), all_through os (q + 1) h t all)
  others_hold (ThenTest logical.AndThen a os) ty words o h t p q all fits end has jump = absurd (let z : false ≡ true = all in cc)
  others_hold (ThenCompute u a os) ty words o h t p q all fits end has jump = absurd (let z : false ≡ true = all in cc)
  others_hold (ThenPointer u a os) ty words o h t p q all fits end has jump = absurd (let z : false ≡ true = all in cc)
  others_hold (ThenPointerPeek n u a os) ty words o h t p q all fits end has jump = absurd (let z : false ≡ true = all in cc)

  tests_hold : (a : Expression) (os : Operations) (ty : Ty) (h t p q : ℕ) → are_tests logical.OrElse os ≡ true → Fits b types (Binary a os ty)
      → p + length (tests_code (starts_of types) logical.OrElse a os h p t) ≡ q → HasAt code p (tests_code (starts_of types) logical.OrElse a os h p t)
      → At code q (holding_jump (last_condition (starts_of types) os (condition_of (starts_of types) a t) t) h) → BranchesAt code b types (Binary a os ty) (q + 1) h t p
  tests_hold a (ThenTest u c os) ty h t p q all (first, fits) end has jump =
      let front = condition_code (starts_of types) a p t in
      let m = p + length front in
      let next = condition_of (starts_of types) a t in
      let rest = others_code (starts_of types) logical.OrElse (ThenTest u c os) next h m t in
      let (x, y, fork, fails, passes) = others_hold (ThenTest u c os) ty (operand_words (type_of a)) next h t m q all fits (cut p q front rest end) (has_back code p front rest has) jump in
      inr (x, y, compared_whole code b types a x y t p (next.left, next.right, m, condition_stands a t p m first refl (has_front code p front rest has), fork), fails, passes)
  tests_hold a NoOperations ty h t p q all fits end has jump = absurd (let z : false ≡ true = all in cc)
  tests_hold a (ThenCompute u c os) ty h t p q all fits end has jump = absurd (let z : false ≡ true = all in cc)
  tests_hold a (ThenPointer u c os) ty h t p q all fits end has jump = absurd (let z : false ≡ true = all in cc)
  tests_hold a (ThenPointerPeek n u c os) ty h t p q all fits end has jump = absurd (let z : false ≡ true = all in cc)

  mutual
    pub branch_stands : (a : Expression) (f t p q : ℕ) → Fits b types a → p + length (branch_code (starts_of types) logical.AndThen a f p t) ≡ q → HasAt code p (branch_code (starts_of types) logical.AndThen a f p t)
        → At code q (failing_jump (branch_of (starts_of types) logical.AndThen a t) f) → BranchesAt code b types a f (q + 1) t p
    branch_stands (Unary unary.Not a) f t p q fits end has jump = inr (branch_follows a f t p q fits end has jump)
    branch_stands (Binary a os ty) f t p q fits end has jump = chain (are_tests logical.AndThen os) refl end has jump
      where
        chain : (tests : Bool) → are_tests logical.AndThen os ≡ tests
            → p + length (if tests then tests_code (starts_of types) logical.AndThen a os f p t else choice_code (starts_of types) logical.OrElse (Binary a os ty) p t) ≡ q
            → HasAt code p (if tests then tests_code (starts_of types) logical.AndThen a os f p t else choice_code (starts_of types) logical.OrElse (Binary a os ty) p t)
            → At code q (failing_jump (if tests then last_condition (starts_of types) os (condition_of (starts_of types) a t) t else choice_of (starts_of types) logical.OrElse (Binary a os ty) t) f)
            → BranchesAt code b types (Binary a os ty) f (q + 1) t p
        chain true is end has jump = tests_fail a os ty f t p q is fits end has jump
        chain false is end has jump = choice_stands (Binary a os ty) f t p q fits end has jump
    branch_stands a f t p q fits end has jump = choice_stands a f t p q fits end has jump

    branch_follows : (a : Expression) (h t p q : ℕ) → Fits b types a → p + length (branch_code (starts_of types) logical.OrElse a h p t) ≡ q → HasAt code p (branch_code (starts_of types) logical.OrElse a h p t)
        → At code q (holding_jump (branch_of (starts_of types) logical.OrElse a t) h) → BranchesAt code b types a (q + 1) h t p
    branch_follows (Unary unary.Not a) h t p q fits end has jump =
        let made = branch_of (starts_of types) logical.AndThen a t in
        inr (branch_stands a h t p q fits end has (subst (λ (c : Comparison). At code q (instructions.Branch c made.left made.right h)) (opposite_twice made.failing) jump))
    branch_follows (Binary a os ty) h t p q fits end has jump = chain (are_tests logical.OrElse os) refl end has jump
      where
        chain : (tests : Bool) → are_tests logical.OrElse os ≡ tests
            → p + length (if tests then tests_code (starts_of types) logical.OrElse a os h p t else choice_code (starts_of types) logical.AndThen (Binary a os ty) p t) ≡ q
            → HasAt code p (if tests then tests_code (starts_of types) logical.OrElse a os h p t else choice_code (starts_of types) logical.AndThen (Binary a os ty) p t)
            → At code q (holding_jump (if tests then last_condition (starts_of types) os (condition_of (starts_of types) a t) t else choice_of (starts_of types) logical.AndThen (Binary a os ty) t) h)
            → BranchesAt code b types (Binary a os ty) (q + 1) h t p
        chain true is end has jump = tests_hold a os ty h t p q is fits end has jump
        chain false is end has jump = choice_follows (Binary a os ty) h t p q fits end has jump
    branch_follows a h t p q fits end has jump = choice_follows a h t p q fits end has jump
