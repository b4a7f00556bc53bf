-- The code of conditions is emitted piece by piece.
use Rattle.std.proofs.Common.{◌≡◌, ℕ, suc, ◌+◌, ◌≤◌, ◌<◌, Bool, true, false, drop, set, get_or, length-append, append_assoc, List, [], ◌∷◌, ◌++◌, length, Option, None, Some, slice_get, refl, sym, ap, subst, ◌∙◌, arith, append-nil}
use Rattle.std.proofs.lemmas.Option.{same_Some, none-some}
use Rattle.std.proofs.lemmas.List.{drop_all, drop_more, length-set}
use Rattle.std.proofs.Math.Seq.{set-append_seam}
use Rattle.std.specs.declared.alloc.Global.{Global as Heap}
use Rattle.std.specs.declared.boxed.Box.{Box}
use Rattle.std.specs.declared.vec.Vec.{Vec}
use Rattle.std.specs.Prelude.{if◌then◌else◌, ◌==◌}
use Rattle.cyc_words.proofs.Booleans.{and_right}
use Rattle.cyc_types.specs.declared.ty.Ty.{Ty as TyCode}
use Rattle.cyc_types.specs.declared.typed.UnaryOperator.{UnaryOperator}
use Rattle.cyc_types.specs.declared.typed.UnaryOperator.TheVariants as unary
use Rattle.cyc_types.specs.declared.typed.LogicalOperator.{LogicalOperator}
use Rattle.cyc_types.specs.declared.typed.Expr.{Expr, roll-Expr, roll-out-Expr}
use Rattle.cyc_types.specs.declared.typed.Expr.TheVariants as expr
use Rattle.cyc_types.specs.declared.typed.Operation.{Operation}
use Rattle.cyc_types.specs.declared.typed.Operation.TheVariants as operation
use Rattle.cyc_types.specs.Types.{Ty}
use Rattle.cyc_types.specs.TypedTrees.{Expression, Number, Unary, Binary, Operations, ThenCompute, ThenTest, ThenPointer, ThenPointerPeek, NoOperations}
use Rattle.cyc_types.specs.TypedTreeView.{view_expression, operations_of}
use Rattle.cyc_plain.specs.declared.instruction.Comparison.{Comparison}
use Rattle.cyc_plain.specs.declared.instruction.Operand.{Operand}
use Rattle.cyc_plain.specs.declared.instruction.Instruction.{Instruction}
use Rattle.cyc_lower_proof.specs.declared.condition.Condition.{Condition}
use Rattle.cyc_lower.specs.declared.conditions.Pending.{Pending}
use Rattle.cyc_lower.specs.declared.conditions.Tested.{Tested}
use Rattle.cyc_lower_proof.specs.inside.Slots.{Starts}
use Rattle.cyc_lower_proof.specs.inside.ControlCode.{Compared, with_zero, compared_or, compared_of, is_same, deciding_condition, deciding_jump, failing_jump, turned_test, all_test, are_tests, nulled_or, pointers_failing}
use Rattle.cyc_lower_proof.specs.inside.ExpressionCode.{value_operand}
use Rattle.cyc_lower_proof.specs.inside.Lowering.{first_operand, first_code, second_code, pair_code, condition_code, condition_of, others_code, last_condition, tests_code, after_tests, choice_code, choice_of, branch_code, branch_of, compares_light}
use Rattle.cyc_lower.specs.inside.Emission.{most_locals, failed, AreBefore, early_jumps, Aims, IsTested, IsEarly, IsBranch, IsSettled, other_code, other_condition, value_code, zero_condition, null_condition, pair_condition, null_operation, pair_operation, right_of}
use Rattle.cyc_lower.proofs.emission.Emitting.{emitted_joined, Lowers, Remains, goes_on, all_made, no_shorter_than}

-- ---- chains that are tested as a whole

pub not_single : (first : Expression) (os : List Operation) (ty : Ty) → (length os ≡ 1 → ⊥) → compared_of (Binary first (operations_of os) ty) ≡ with_zero (Binary first (operations_of os) ty)
not_single first [] ty many = refl
not_single first (operation.Test o e ∷ os) ty many = refl
not_single first (operation.Pointer o e ∷ []) ty many = absurd (many refl)
not_single first (operation.Pointer o e ∷ operation.Compute w u x ∷ os) ty many = refl
not_single first (operation.Pointer o e ∷ operation.Test u x ∷ os) ty many = refl
not_single first (operation.Pointer o e ∷ operation.Pointer u x ∷ os) ty many = refl
not_single first (operation.Pointer o e ∷ operation.PointerPeek u n x ∷ os) ty many = refl
not_single first (operation.PointerPeek o n e ∷ []) ty many = absurd (many refl)
not_single first (operation.PointerPeek o n e ∷ operation.Compute w u x ∷ os) ty many = refl
not_single first (operation.PointerPeek o n e ∷ operation.Test u x ∷ os) ty many = refl
not_single first (operation.PointerPeek o n e ∷ operation.Pointer u x ∷ os) ty many = refl
not_single first (operation.PointerPeek o n e ∷ operation.PointerPeek u m x ∷ os) ty many = refl
not_single first (operation.Compute w o e ∷ []) ty many = absurd (many refl)
not_single first (operation.Compute w o e ∷ operation.Compute w' u x ∷ os) ty many = refl
not_single first (operation.Compute w o e ∷ operation.Test u x ∷ os) ty many = refl
not_single first (operation.Compute w o e ∷ operation.Pointer u x ∷ os) ty many = refl
not_single first (operation.Compute w o e ∷ operation.PointerPeek u n x ∷ os) ty many = refl

-- A chain of several operators is not a single comparison.
pub compares_alone : (starts : Starts) (first : Expression) (os : List Operation) → (length os ≡ 1 → ⊥) → compares_light starts first (operations_of os) ≡ false
compares_alone starts first [] many = refl
compares_alone starts first (operation.Test o e ∷ os) many = refl
compares_alone starts first (operation.Pointer o e ∷ os) many = refl
compares_alone starts first (operation.PointerPeek o n e ∷ os) many = refl
compares_alone starts first (operation.Compute w o e ∷ []) many = absurd (many refl)
compares_alone starts first (operation.Compute w o e ∷ operation.Compute w' u x ∷ os) many = refl
compares_alone starts first (operation.Compute w o e ∷ operation.Test u x ∷ os) many = refl
compares_alone starts first (operation.Compute w o e ∷ operation.Pointer u x ∷ os) many = refl
compares_alone starts first (operation.Compute w o e ∷ operation.PointerPeek u n x ∷ os) many = refl

-- ---- the first slots of locals

module _ (starts : Starts) where
  -- `IsMade` says that the code of a condition is emitted, and that the comparison of two operands that decides the condition is returned.
  abbrev IsMade : (whole : Expression) → (answer : Condition) → (old new : List Instruction) → (t : ℕ) → Type 0
  IsMade whole answer old new t = (answer ≡ condition_of starts whole t) × (new ≡ old ++ condition_code starts whole (length old) t)

  abbrev operands_of : Compared → ℕ → Condition
  operands_of x t = record { failing = x.failing; left = first_operand starts x.left x.right t; right = value_operand starts x.right (suc t) }

  pub made_alone : (whole a : Expression) (answer : Condition) (old new : List Instruction) (t : ℕ) → compared_of whole ≡ with_zero a
      → (answer ≡ zero_condition starts a t) × (new ≡ old ++ value_code starts a (length old) t) → IsMade whole answer old new t
  made_alone whole a answer old new t is (answers, made) = (
    answers ∙ sym (ap (λ (x : Compared). operands_of x t) is),
    made ∙ ap (λ (l : List Instruction). old ++ l) (sym (append-nil (value_code starts a (length old) t)))
        ∙ sym (ap (λ (x : Compared). old ++ pair_code starts x.left x.right (length old) t) is),
  )

  -- If the only operator of an expression compares a pointer with null, emitting the pointer and comparing its word with 0 emits the
  -- condition.
  made_nulled : (whole a : Expression) (failing : Comparison) (answer : Condition) (old new : List Instruction) (t : ℕ) → compared_of whole ≡ record { failing = failing; left = a; right = Number 0 }
      → (answer ≡ null_condition starts failing a t) × (new ≡ old ++ value_code starts a (length old) t) → IsMade whole answer old new t
  made_nulled whole a failing answer old new t is (answers, made) = (
    answers ∙ sym (ap (λ (x : Compared). operands_of x t) is),
    made ∙ ap (λ (l : List Instruction). old ++ l) (sym (append-nil (value_code starts a (length old) t)))
        ∙ sym (ap (λ (x : Compared). old ++ pair_code starts x.left x.right (length old) t) is),
  )

  null_chain : (first : Expression) (x : Operation) (ty : Ty) (failing : Comparison) → null_operation x ≡ Some failing
      → compared_of (Binary first (operations_of (x ∷ [])) ty) ≡ record { failing = failing; left = first; right = Number 0 }
  null_chain first (operation.Pointer o e) ty failing is =
      ap (λ (f : Option Comparison). nulled_or f (pointers_failing o) first (view_expression e) (Binary first (ThenPointer o (view_expression e) NoOperations) ty)) is
  null_chain first (operation.PointerPeek n o e) ty failing is =
      ap (λ (f : Option Comparison). nulled_or f (pointers_failing o) first (view_expression e) (Binary first (ThenPointerPeek n o (view_expression e) NoOperations) ty)) is
  null_chain first (operation.Compute w o e) ty failing is = absurd (none-some failing is)
  null_chain first (operation.Test o e) ty failing is = absurd (none-some failing is)

  pub made_null : (whole first : Expression) (xs : List Operation) (x : Operation) (ty : Ty) (failing : Comparison) (answer : Condition) (old new : List Instruction) (t : ℕ)
      → whole ≡ Binary first (operations_of xs) ty → length xs ≡ 1 → Some x ≡ slice_get xs 0 → null_operation x ≡ Some failing
      → (answer ≡ null_condition starts failing first t) × (new ≡ old ++ value_code starts first (length old) t) → IsMade whole answer old new t
  made_null whole first [] x ty failing answer old new t chain single at is made = absurd (omega (arith, single))
  made_null whole first (y ∷ z ∷ xs) x ty failing answer old new t chain single at is made = absurd (omega (arith, single))
  made_null whole first (y ∷ []) x ty failing answer old new t chain single at is made =
      let here : null_operation y ≡ Some failing = ap null_operation (sym (same_Some x y at)) ∙ is in
      subst (λ (w : Expression). IsMade w answer old new t) (sym chain)
      (made_nulled (Binary first (operations_of (y ∷ [])) ty) first failing answer old new t (null_chain first y ty failing here) made)

  -- If an expression has only one operator, which compares two operands, its condition compares these operands.
  pair_chain : (first : Expression) (x : Operation) (ty : Ty) (failing : Comparison) → null_operation x ≡ None → pair_operation x ≡ Some failing
      → compared_of (Binary first (operations_of (x ∷ [])) ty) ≡ record { failing = failing; left = first; right = right_of x }
  pair_chain first (operation.Compute w o e) ty failing none is =
      ap (λ (f : Option Comparison). compared_or f first (view_expression e) (Binary first (ThenCompute o (view_expression e) NoOperations) ty)) is
  pair_chain first (operation.Pointer o e) ty failing none is =
      let whole = Binary first (ThenPointer o (view_expression e) NoOperations) ty in
      ap (λ (f : Option Comparison). nulled_or f (pointers_failing o) first (view_expression e) whole) none
      ∙ ap (λ (f : Option Comparison). compared_or f first (view_expression e) whole) is
  pair_chain first (operation.PointerPeek n o e) ty failing none is =
      let whole = Binary first (ThenPointerPeek n o (view_expression e) NoOperations) ty in
      ap (λ (f : Option Comparison). nulled_or f (pointers_failing o) first (view_expression e) whole) none
      ∙ ap (λ (f : Option Comparison). compared_or f first (view_expression e) whole) is
  pair_chain first (operation.Test o e) ty failing none is = absurd (none-some failing is)

  made_paired : (whole a b : Expression) (failing : Comparison) (answer : Condition) (old new : List Instruction) (t : ℕ) → compared_of whole ≡ record { failing = failing; left = a; right = b }
      → (answer ≡ pair_condition starts failing a b t) × (new ≡ old ++ pair_code starts a b (length old) t) → IsMade whole answer old new t
  made_paired whole a b failing answer old new t is (answers, made) = (
    answers ∙ sym (ap (λ (x : Compared). operands_of x t) is),
    made ∙ sym (ap (λ (x : Compared). old ++ pair_code starts x.left x.right (length old) t) is),
  )

  pub made_pair : (whole first : Expression) (xs : List Operation) (x : Operation) (ty : Ty) (failing : Comparison) (answer : Condition) (old new : List Instruction) (t : ℕ)
      → whole ≡ Binary first (operations_of xs) ty → length xs ≡ 1 → Some x ≡ slice_get xs 0 → null_operation x ≡ None → pair_operation x ≡ Some failing
      → (answer ≡ pair_condition starts failing first (right_of x) t) × (new ≡ old ++ pair_code starts first (right_of x) (length old) t) → IsMade whole answer old new t
  made_pair whole first [] x ty failing answer old new t chain single at none is made = absurd (omega (arith, single))
  made_pair whole first (y ∷ z ∷ xs) x ty failing answer old new t chain single at none is made = absurd (omega (arith, single))
  made_pair whole first (y ∷ []) x ty failing answer old new t chain single at none is made =
      let same : x ≡ y = same_Some x y at in
      subst (λ (w : Expression). IsMade w answer old new t) (sym (chain ∙ ap (λ (z : Operation). Binary first (operations_of (z ∷ [])) ty) (sym same)))
      (made_paired (Binary first (operations_of (x ∷ [])) ty) first (right_of x) failing answer old new t (pair_chain first x ty failing none is) made)

  -- The two operands of a comparison are emitted one after the other.
  pub pair_made : (a b : Expression) (failing : Comparison) (l r : Operand) (old m1 m2 : List Instruction) (t following : ℕ) → following ≡ t + 1
      → l ≡ first_operand starts a b t → m1 ≡ old ++ first_code starts a b (length old) t → r ≡ value_operand starts b following → m2 ≡ m1 ++ value_code starts b (length m1) following
      → (record { failing = failing; left = l; right = r } ≡ pair_condition starts failing a b t) × (m2 ≡ old ++ pair_code starts a b (length old) t)
  pair_made a b failing l r old m1 m2 t following following_is left made_left right made_right =
      let next : following ≡ suc t = omega (arith, following_is) in
      let front = first_code starts a b (length old) t in (
        ap (λ (x : Operand). let k : Condition = record { failing = failing; left = x; right = r } in k) left
            ∙ ap (λ (x : Operand). let k : Condition = record { failing = failing; left = first_operand starts a b t; right = x } in k) (right ∙ ap (value_operand starts b) next),
        emitted_joined old front (λ p. second_code starts b p t) m1 m2 made_left (made_right ∙ ap (λ (n : ℕ). m1 ++ value_code starts b (length m1) n) next),
      )

-- ---- conditions with several operands

module _ (starts : Starts) where
  -- Returns the code of the operands after the first one of a chain of `&&` or `||`. The state passed on is the
  -- comparison that decides the previous operand.
  abbrev pub all_others : LogicalOperator → (following t : ℕ) → List Operation → ℕ → Condition → List Instruction
  all_others u following t os p c = others_code starts u (operations_of os) c following p t

  abbrev pub one_other : LogicalOperator → (following t : ℕ) → Operation → List Operation → ℕ → Condition → List Instruction
  one_other u following t o os p c = other_code starts u o c following p t

  abbrev pub next_other : (t : ℕ) → Operation → List Operation → Condition → Condition
  next_other t o os c = other_condition starts o c t

  other_more : (u : LogicalOperator) (following t : ℕ) (o : Operation) (os : List Operation) (p : ℕ) (c : Condition)
      → all_others u following t (o ∷ os) p c ≡ one_other u following t o os p c ++ all_others u following t os (p + length (one_other u following t o os p c)) (next_other t o os c)
  other_more u following t (operation.Test o e) os p c = refl
  other_more u following t (operation.Compute w o e) os p c = ap (λ (n : ℕ). all_others u following t os n c) (let z : p ≡ p + 0 = omega arith in z)
  other_more u following t (operation.Pointer o e) os p c = ap (λ (n : ℕ). all_others u following t os n c) (let z : p ≡ p + 0 = omega arith in z)
  other_more u following t (operation.PointerPeek n o e) os p c = ap (λ (n : ℕ). all_others u following t os n c) (let z : p ≡ p + 0 = omega arith in z)

  pub others_lower : (u : LogicalOperator) (following t : ℕ) → Lowers (all_others u following t) (one_other u following t) (next_other t)
  others_lower u following t = record { none = λ p c. refl; more = other_more u following t }

  -- `OthersRemain` says that the operands of a chain of `&&` or `||` visited so far have been emitted, and that the
  -- comparison `c` decides the last one.
  abbrev pub OthersRemain : LogicalOperator → Expression → List Operation → (following t : ℕ) → (old : List Instruction) → (i : ℕ) → (code : List Instruction) → Condition → Type 0
  OthersRemain u a os following t old i code c =
      Remains (all_others u following t) (old ++ condition_code starts a (length old) t) os (condition_of starts a t) i code c
      × (last_condition starts (operations_of (drop i os)) c t ≡ last_condition starts (operations_of os) (condition_of starts a t) t)
      × (t ≤ most_locals + length code)

  pub others_begin : (u : LogicalOperator) (a : Expression) (os : List Operation) (following t : ℕ) (old code : List Instruction) (c : Condition) → t ≤ most_locals + length old
      → c ≡ condition_of starts a t → code ≡ old ++ condition_code starts a (length old) t → OthersRemain u a os following t old 0 code c
  others_begin u a os following t old code c low is made = (
    ap (λ (l : List Instruction). l ++ all_others u following t os (length l) c) made ∙ ap (λ (x : Condition). (old ++ condition_code starts a (length old) t) ++ all_others u following t os (length (old ++ condition_code starts a (length old) t)) x) is,
    ap (λ (x : Condition). last_condition starts (operations_of os) x t) is,
    omega (arith, low, no_shorter_than old _ code made),
  )

  -- The comparison that decides the last operand of an operator chain does not change if the chain's next operand is handled separately
  -- before the remaining ones.
  last_more : (o : Operation) (os : List Operation) (c : Condition) (t : ℕ) → last_condition starts (operations_of (o ∷ os)) c t ≡ last_condition starts (operations_of os) (next_other t o os c) t
  last_more (operation.Test o e) os c t = refl
  last_more (operation.Compute w o e) os c t = refl
  last_more (operation.Pointer o e) os c t = refl
  last_more (operation.PointerPeek n o e) os c t = refl

  pub others_next : (u : LogicalOperator) (a : Expression) (os : List Operation) (following t : ℕ) (old : List Instruction) (i : ℕ) (code new : List Instruction) (c d : Condition) (x : Operation) → i < length os → x ≡ get_or os i x
      → new ≡ code ++ one_other u following t x (drop (i + 1) os) (length code) c → d ≡ next_other t x (drop (i + 1) os) c → OthersRemain u a os following t old i code c → OthersRemain u a os following t old (i + 1) new d
  others_next u a os following t old i code new c d x inside at made is (remains, last, low) =
      let rest = drop (i + 1) os in
      let here : drop i os ≡ x ∷ rest = drop_more os i x inside ∙ ap (λ (y : Operation). y ∷ rest) (sym at) in (
        subst (λ (z : Condition). Remains (all_others u following t) (old ++ condition_code starts a (length old) t) os (condition_of starts a t) (i + 1) new z) (sym is)
            (goes_on (all_others u following t) (one_other u following t) (next_other t) (others_lower u following t) (old ++ condition_code starts a (length old) t) os (condition_of starts a t) i code new c x inside at made remains),
        ap (λ (z : Condition). last_condition starts (operations_of rest) z t) is ∙ sym (last_more x rest c t) ∙ sym (ap (λ (l : List Operation). last_condition starts (operations_of l) c t) here) ∙ last,
        omega (arith, low, no_shorter_than code _ new made),
      )

  pub others_end : (u : LogicalOperator) (a : Expression) (os : List Operation) (following t : ℕ) (old : List Instruction) (i : ℕ) (code : List Instruction) (c : Condition) → length os ≤ i → OthersRemain u a os following t old i code c
      → (c ≡ last_condition starts (operations_of os) (condition_of starts a t) t) × (code ≡ old ++ tests_code starts u a (operations_of os) following (length old) t)
  others_end u a os following t old i code c done (remains, last, low) =
      let first = condition_code starts a (length old) t in (
        sym (ap (λ (l : List Operation). last_condition starts (operations_of l) c t) (drop_all i os done)) ∙ last,
        all_made (all_others u following t) (one_other u following t) (next_other t) (others_lower u following t) (old ++ first) os (condition_of starts a t) i code c done remains
            ∙ ap (λ (n : ℕ). (old ++ first) ++ all_others u following t os n (condition_of starts a t)) (length-append old first)
            ∙ append_assoc old first (others_code starts u (operations_of os) (condition_of starts a t) following (length old + length first) t),
      )

  -- A condition that is a chain of logical operators is emitted as tests of its operands. A condition that is any other
  -- chain is emitted as a value or a comparison.
  pub chain_chosen : (u : LogicalOperator) (a : Expression) (os : Operations) (ty : Ty) (whole : Expression) (answer : Condition) (old new : List Instruction) (t : ℕ) → whole ≡ Binary a os ty → are_tests u os ≡ true
      → (answer ≡ last_condition starts os (condition_of starts a t) t) × (new ≡ old ++ tests_code starts u a os (after_tests starts u a os (length old) t) (length old) t)
      → (answer ≡ choice_of starts u whole t) × (new ≡ old ++ choice_code starts u whole (length old) t)
  chain_chosen u a os ty whole answer old new t is tests (answers, made) =
      let p = length old in
      let x = after_tests starts u a os p t in
      let chosen : choice_of starts u whole t ≡ last_condition starts os (condition_of starts a t) t
      = ap (λ (z : Expression). choice_of starts u z t) is ∙ ap (λ (b : Bool). if b then last_condition starts os (condition_of starts a t) t else condition_of starts (Binary a os ty) t) tests in
      let code : choice_code starts u whole p t ≡ tests_code starts u a os x p t
      = ap (λ (z : Expression). choice_code starts u z p t) is ∙ ap (λ (b : Bool). if b then tests_code starts u a os x p t else condition_code starts (Binary a os ty) p t) tests in
      (answers ∙ sym chosen, made ∙ ap (λ (l : List Instruction). old ++ l) (sym code))

  pub whole_chosen : (u : LogicalOperator) (a : Expression) (os : Operations) (ty : Ty) (whole : Expression) (answer : Condition) (old new : List Instruction) (t : ℕ) → whole ≡ Binary a os ty → are_tests u os ≡ false
      → (answer ≡ condition_of starts whole t) × (new ≡ old ++ condition_code starts whole (length old) t) → (answer ≡ choice_of starts u whole t) × (new ≡ old ++ choice_code starts u whole (length old) t)
  whole_chosen u a os ty whole answer old new t is other (answers, made) =
      let p = length old in
      let chosen : choice_of starts u whole t ≡ condition_of starts whole t
      = ap (λ (z : Expression). choice_of starts u z t) is ∙ ap (λ (b : Bool). if b then last_condition starts os (condition_of starts a t) t else condition_of starts (Binary a os ty) t) other ∙ ap (λ (z : Expression). condition_of starts z t) (sym is) in
      let code : choice_code starts u whole p t ≡ condition_code starts whole p t
      = ap (λ (z : Expression). choice_code starts u z p t) is ∙ ap (λ (b : Bool). if b then tests_code starts u a os (after_tests starts u a os p t) p t else condition_code starts (Binary a os ty) p t) other ∙ ap (λ (z : Expression). condition_code starts z p t) (sym is) in
      (answers ∙ sym chosen, made ∙ ap (λ (l : List Instruction). old ++ l) (sym code))

-- ---- the inner jumps of the condition of a branch

pub before_more : (js : List Pending) (m n : ℕ) → AreBefore js m → m ≤ n → AreBefore js n
before_more [] m n before more = tt
before_more (j ∷ js) m n (here, before) more = (omega (arith, here, more), before_more js m n before more)

pub failed_long : (js : List Pending) (target : ℕ) (code : List Instruction) → length (failed js target code) ≡ length code
failed_long [] target code = refl
failed_long (j ∷ js) target code = failed_long js target (set code j.place (failing_jump j.condition target)) ∙ length-set code j.place (failing_jump j.condition target)

-- `FailedRest` says that the jumps not visited yet still have to get the target that the jumps visited so far have.
abbrev pub FailedRest : List Pending → (target : ℕ) → (old : List Instruction) → (i : ℕ) → (code : List Instruction) → Type 0
FailedRest js target old i code =
    (failed (drop i js) target code ≡ failed js target old) × (length code ≡ target) × AreBefore (drop i js) target

pub failed_next : (js : List Pending) (target : ℕ) (old : List Instruction) (i : ℕ) (code new : List Instruction) (none : Pending) → i < length js
    → new ≡ set code (get_or js i none).place (failing_jump (get_or js i none).condition (length code)) → FailedRest js target old i code → FailedRest js target old (i + 1) new
failed_next js target old i code new none inside made (rest, long, before) =
    let j = get_or js i none in
    let here : drop i js ≡ j ∷ drop (i + 1) js = drop_more js i none inside in
    let (first, others) = subst (λ (l : List Pending). AreBefore l target) here before in (
      ap (failed (drop (i + 1) js) target) (made ∙ ap (λ (n : ℕ). set code j.place (failing_jump j.condition n)) long) ∙ sym (ap (λ (l : List Pending). failed l target code) here) ∙ rest,
      ap length made ∙ length-set code j.place (failing_jump j.condition (length code)) ∙ long,
      others,
    )

pub failed_place : (js : List Pending) (target : ℕ) (old : List Instruction) (i : ℕ) (code : List Instruction) (none : Pending) → i < length js → FailedRest js target old i code → (get_or js i none).place < length code
failed_place js target old i code none inside (rest, long, before) =
    let here : drop i js ≡ get_or js i none ∷ drop (i + 1) js = drop_more js i none inside in
    let (first, others) = subst (λ (l : List Pending). AreBefore l target) here before in
    omega (arith, first, long)

pub failed_done : (js : List Pending) (target : ℕ) (old : List Instruction) (i : ℕ) (code : List Instruction) → length js ≤ i → FailedRest js target old i code → code ≡ failed js target old
failed_done js target old i code done (rest, long, before) = sym (ap (λ (l : List Pending). failed l target code) (drop_all i js done)) ∙ rest

-- The contract proved for the emitted code of a condition also holds for any second condition that has the same
-- code and the same deciding comparison.
same_tested : (last again : Condition) (code other : ℕ → List Instruction) (old new : List Instruction) (tested : Tested) → again ≡ last → ((x : ℕ) → other x ≡ code x) → IsTested last code old new tested → IsTested again other old new tested
same_tested last again code other old new tested answers same (last_is, aims, before, made) = (
  last_is ∙ sym answers,
  λ front rest target here.
      ap (λ (l : List Instruction). failed tested.early.items target (front ++ (l ++ rest))) (same 0)
      ∙ aims front rest target here
      ∙ ap (λ (l : List Instruction). front ++ (l ++ rest)) (sym (same target)),
  before,
  made ∙ ap (λ (l : List Instruction). old ++ l) (sym (same 0)),
)

-- If code does not depend on a jump target, and no jump waits for its target, no jump of the code needs its target set.
pub none_wait : (code : List Instruction) (early : List Pending) (place : ℕ) → early ≡ [] → Aims early (λ x. code) place
none_wait code early place none = λ old rest target here. ap (λ (l : List Pending). failed l target (old ++ (code ++ rest))) none

module _ (starts : Starts) where
  -- `EarlyRemain` says that the jumps collected so far, extended by those of the remaining operands, are all jumps of the `&&`
  -- or `||` chain without a target.
  abbrev pub EarlyRemain : LogicalOperator → Expression → List Operation → (t : ℕ) → (old : List Instruction) → (i : ℕ) → (code : List Instruction) → Condition → List Pending → Type 0
  EarlyRemain u a os t old i code c early =
      OthersRemain starts u a os 0 t old i code c
      × (early ++ early_jumps starts u (drop i os) c (length code) t ≡ early_jumps starts u os (condition_of starts a t) (length old + length (condition_code starts a (length old) t)) t)

  pub early_begin : (u : LogicalOperator) (a : Expression) (os : List Operation) (t : ℕ) (old code : List Instruction) (c : Condition) (early : List Pending) → early ≡ [] → t ≤ most_locals + length old → c ≡ condition_of starts a t
      → code ≡ old ++ condition_code starts a (length old) t → EarlyRemain u a os t old 0 code c early
  early_begin u a os t old code c early none low is made = (
    others_begin starts u a os 0 t old code c low is made,
    ap (λ (l : List Pending). l ++ early_jumps starts u os c (length code) t) none
        ∙ ap (λ (x : Condition). early_jumps starts u os x (length code) t) is
        ∙ ap (λ (n : ℕ). early_jumps starts u os (condition_of starts a t) n t) (ap length made ∙ length-append old (condition_code starts a (length old) t)),
  )

  pub early_next : (u : LogicalOperator) (a : Expression) (os : List Operation) (t : ℕ) (old : List Instruction) (i : ℕ) (code new : List Instruction) (c d : Condition) (early more : List Pending) (x : Operation) → i < length os → x ≡ get_or os i x
      → more ≡ early ++ record { place = length code; condition = deciding_condition u c } ∷ [] → new ≡ code ++ other_code starts u x c 0 (length code) t → d ≡ other_condition starts x c t
      → EarlyRemain u a os t old i code c early → EarlyRemain u a os t old (i + 1) new d more
  early_next u a os t old i code new c d early more x inside at kept made is (remains, jumps) =
      let rest = drop (i + 1) os in
      let here : drop i os ≡ x ∷ rest = drop_more os i x inside ∙ ap (λ (y : Operation). y ∷ rest) (sym at) in
      let added = other_code starts u x c 0 (length code) t in
      let this : Pending = record { place = length code; condition = deciding_condition u c } in
      let later = early_jumps starts u rest (other_condition starts x c t) (length code + length added) t in (
        others_next starts u a os 0 t old i code new c d x inside at made is remains,
        ap (λ (l : List Pending). l ++ early_jumps starts u rest d (length new) t) kept
            ∙ ap (λ (z : Condition). (early ++ this ∷ []) ++ early_jumps starts u rest z (length new) t) is
            ∙ ap (λ (n : ℕ). (early ++ this ∷ []) ++ early_jumps starts u rest (other_condition starts x c t) n t) (ap length made ∙ length-append code added)
            ∙ append_assoc early (this ∷ []) later
            ∙ sym (ap (λ (l : List Operation). early ++ early_jumps starts u l c (length code) t) here)
            ∙ jumps,
      )

  pub early_end : (u : LogicalOperator) (a : Expression) (os : List Operation) (t : ℕ) (old : List Instruction) (i : ℕ) (code : List Instruction) (c : Condition) (early : List Pending) → length os ≤ i → EarlyRemain u a os t old i code c early
      → (c ≡ last_condition starts (operations_of os) (condition_of starts a t) t)
      × (early ≡ early_jumps starts u os (condition_of starts a t) (length old + length (condition_code starts a (length old) t)) t)
      × (code ≡ old ++ tests_code starts u a (operations_of os) 0 (length old) t)
  early_end u a os t old i code c early done (remains, jumps) =
      let (last, made) = others_end starts u a os 0 t old i code c done remains in
      (last, sym (append-nil early) ∙ sym (ap (λ (l : List Operation). early ++ early_jumps starts u l c (length code) t) (drop_all i os done)) ∙ jumps, made)

  -- The jumps collected for a chain of only `&&` or only `||` are exactly those whose target must be set.
  others_aim : (u : LogicalOperator) (os : List Operation) (c : Condition) (t : ℕ) (old rest : List Instruction) (target : ℕ) → all_test u (operations_of os) ≡ true
      → failed (early_jumps starts u os c (length old) t) target (old ++ (others_code starts u (operations_of os) c 0 (length old) t ++ rest)) ≡ old ++ (others_code starts u (operations_of os) c target (length old) t ++ rest)
  others_aim u [] c t old rest target all = refl
  others_aim u (operation.Test o e ∷ os) c t old rest target all =
      let p = length old in
      let b = view_expression e in
      let operand = condition_code starts b (p + 1) t in
      let next = condition_of starts b t in
      let q = p + suc (length operand) in
      let first = deciding_jump u c target in
      let others : ℕ → List Instruction = λ x. others_code starts u (operations_of os) next x q t in
      let whole : ℕ → List Instruction = λ x. operand ++ (others x ++ rest) in
      let before = old ++ first ∷ operand in
      let long : length before ≡ q = length-append old (first ∷ operand) in
      let jumps = early_jumps starts u os next q t in
      ap (λ (l : List Instruction). failed jumps target (set (old ++ deciding_jump u c 0 ∷ l) p first)) (append_assoc operand (others 0) rest)
      ∙ ap (failed jumps target) (set-append_seam old (deciding_jump u c 0) (whole 0) first ∙ sym (append_assoc old (first ∷ operand) (others 0 ++ rest)))
      ∙ subst (λ (n : ℕ). failed (early_jumps starts u os next n t) target (before ++ (others_code starts u (operations_of os) next 0 n t ++ rest)) ≡ before ++ (others_code starts u (operations_of os) next target n t ++ rest)) long (others_aim u os next t before rest target (and_right (is_same u o) (all_test u (operations_of os)) all))
      ∙ append_assoc old (first ∷ operand) (others target ++ rest)
      ∙ ap (λ (l : List Instruction). old ++ first ∷ l) (sym (append_assoc operand (others target) rest))
  others_aim u (operation.Compute w o e ∷ os) c t old rest target all = absurd (let z : false ≡ true = all in cc)
  others_aim u (operation.Pointer o e ∷ os) c t old rest target all = absurd (let z : false ≡ true = all in cc)
  others_aim u (operation.PointerPeek n o e ∷ os) c t old rest target all = absurd (let z : false ≡ true = all in cc)

  others_before : (u : LogicalOperator) (os : List Operation) (c : Condition) (p t : ℕ) → all_test u (operations_of os) ≡ true → AreBefore (early_jumps starts u os c p t) (p + length (others_code starts u (operations_of os) c 0 p t))
  others_before u [] c p t all = tt
  others_before u (operation.Test o e ∷ os) c p t all =
      let b = view_expression e in
      let operand = condition_code starts b (p + 1) t in
      let next = condition_of starts b t in
      let q = p + suc (length operand) in
      let others = others_code starts u (operations_of os) next 0 q t in
      let long = length-append operand others in
      (omega arith, before_more (early_jumps starts u os next q t) (q + length others) (p + suc (length (operand ++ others))) (others_before u os next q t (and_right (is_same u o) (all_test u (operations_of os)) all)) (omega (arith, long)))
  others_before u (operation.Compute w o e ∷ os) c p t all = absurd (let z : false ≡ true = all in cc)
  others_before u (operation.Pointer o e ∷ os) c p t all = absurd (let z : false ≡ true = all in cc)
  others_before u (operation.PointerPeek n o e ∷ os) c p t all = absurd (let z : false ≡ true = all in cc)

  -- The condition of a branch is emitted operand by operand if it is a chain of the given logical operator, and otherwise as
  -- any other expression.
  tests_all : (u : LogicalOperator) (os : List Operation) → are_tests u (operations_of os) ≡ true → all_test u (operations_of os) ≡ true
  tests_all u [] tests = refl
  tests_all u (operation.Test o e ∷ os) tests = tests
  tests_all u (operation.Compute w o e ∷ os) tests = tests
  tests_all u (operation.Pointer o e ∷ os) tests = tests
  tests_all u (operation.PointerPeek n o e ∷ os) tests = tests

  tests_aim : (u : LogicalOperator) (a : Expression) (os : List Operation) (p t : ℕ) → all_test u (operations_of os) ≡ true
      → Aims (early_jumps starts u os (condition_of starts a t) (p + length (condition_code starts a p t)) t) (λ x. tests_code starts u a (operations_of os) x p t) p
  tests_aim u a os p t all = λ old rest target here.
      let first = condition_code starts a p t in
      let before = old ++ first in
      let c = condition_of starts a t in
      let q = p + length first in
      let others : ℕ → List Instruction = λ x. others_code starts u (operations_of os) c x q t in
      let apart : (x : ℕ) → old ++ ((first ++ others x) ++ rest) ≡ before ++ (others x ++ rest)
      = λ x. ap (λ (l : List Instruction). old ++ l) (append_assoc first (others x) rest) ∙ sym (append_assoc old first (others x ++ rest)) in
      let long : length before ≡ q = omega (arith, length-append old first, here) in
      ap (failed (early_jumps starts u os c q t) target) (apart 0)
      ∙ subst (λ (n : ℕ). failed (early_jumps starts u os c n t) target (before ++ (others_code starts u (operations_of os) c 0 n t ++ rest)) ≡ before ++ (others_code starts u (operations_of os) c target n t ++ rest)) long (others_aim u os c t before rest target all)
      ∙ sym (apart target)

  pub early_tested : (u : LogicalOperator) (whole a : Expression) (os : List Operation) (ty : Ty) (t : ℕ) (old new : List Instruction) (tested : Tested) → whole ≡ Binary a (operations_of os) ty → are_tests u (operations_of os) ≡ true
      → IsEarly starts u a os t old new tested → IsBranch starts u whole t old new tested
  early_tested u whole a os ty t old new tested is tests (last_is, early_is, made) =
      let p = length old in
      let first = condition_code starts a p t in
      let c = condition_of starts a t in
      let others = others_code starts u (operations_of os) c 0 (p + length first) t in
      let jumps = early_jumps starts u os c (p + length first) t in
      let all = tests_all u os tests in
      same_tested (last_condition starts (operations_of os) c t) (branch_of starts u whole t) (λ x. tests_code starts u a (operations_of os) x p t) (λ x. branch_code starts u whole x p t) old new tested
      (ap (λ (z : Expression). branch_of starts u z t) is ∙ ap (λ (b : Bool). if b then last_condition starts (operations_of os) c t else choice_of starts (turned_test u) (Binary a (operations_of os) ty) t) tests)
      (λ x. ap (λ (z : Expression). branch_code starts u z x p t) is ∙ ap (λ (b : Bool). if b then tests_code starts u a (operations_of os) x p t else choice_code starts (turned_test u) (Binary a (operations_of os) ty) p t) tests) (
        last_is,
        subst (λ (l : List Pending). Aims l (λ x. tests_code starts u a (operations_of os) x p t) p) (sym early_is) (tests_aim u a os p t all),
        subst (λ (l : List Pending). AreBefore l (length new)) (sym early_is)
            (before_more jumps (p + length first + length others) (length new) (others_before u os c (p + length first) t all) (omega (arith, ap length made, length-append old (first ++ others), length-append first others))),
        made,
      )

  pub chain_tested : (u : LogicalOperator) (whole a : Expression) (os : Operations) (ty : Ty) (t : ℕ) (old new : List Instruction) (tested : Tested) → whole ≡ Binary a os ty → are_tests u os ≡ false
      → IsSettled starts (turned_test u) whole t old new tested → IsBranch starts u whole t old new tested
  chain_tested u whole a os ty t old new tested is other made =
      let p = length old in
      same_tested (choice_of starts (turned_test u) whole t) (branch_of starts u whole t) (λ x. choice_code starts (turned_test u) whole p t) (λ x. branch_code starts u whole x p t) old new tested
      (ap (λ (z : Expression). branch_of starts u z t) is ∙ ap (λ (b : Bool). if b then last_condition starts os (condition_of starts a t) t else choice_of starts (turned_test u) (Binary a os ty) t) other ∙ ap (λ (z : Expression). choice_of starts (turned_test u) z t) (sym is))
      (λ x. ap (λ (z : Expression). branch_code starts u z x p t) is ∙ ap (λ (b : Bool). if b then tests_code starts u a os x p t else choice_code starts (turned_test u) (Binary a os ty) p t) other ∙ ap (λ (z : Expression). choice_code starts (turned_test u) z p t) (sym is))
      made

  -- `IsBare` concerns a condition that is neither a negation nor a chain of the given operator (`&&` or `||`). `IsBare` says that a
  -- condition that is a chain of the other operator (`&&` for `||`, or the reverse) is emitted operand by operand.
  abbrev pub IsBare : LogicalOperator → Expression → (t : ℕ) → Type 0
  IsBare u a t = (branch_of starts u a t ≡ choice_of starts (turned_test u) a t) × ((x p : ℕ) → branch_code starts u a x p t ≡ choice_code starts (turned_test u) a p t)

  pub unary_bare : (u : LogicalOperator) (value : Expr) (o : UnaryOperator) (b : Box Expr Heap) (t : ℕ) → value ≡ expr.Unary o b → (o ≡ unary.Not → ⊥) → IsBare u (view_expression value) t
  unary_bare u value unary.Negate b t is other = subst (λ (e : Expr). IsBare u (view_expression e) t) (sym is) (refl, λ x p. refl)
  unary_bare u value unary.Not b t is other = absurd (other refl)
  unary_bare u value unary.Complement b t is other = subst (λ (e : Expr). IsBare u (view_expression e) t) (sym is) (refl, λ x p. refl)
  unary_bare u value unary.Widen b t is other = subst (λ (e : Expr). IsBare u (view_expression e) t) (sym is) (refl, λ x p. refl)
  unary_bare u value unary.LowByte b t is other = subst (λ (e : Expr). IsBare u (view_expression e) t) (sym is) (refl, λ x p. refl)

  pub node_bare : (u : LogicalOperator) (value : Expr) (t : ℕ) → ((b : Box Expr Heap) (v : Vec Operation Heap) (ty : TyCode) → value ≡ expr.Binary b v ty → ⊥)
      → ((o : UnaryOperator) (b : Box Expr Heap) → value ≡ expr.Unary o b → ⊥) → IsBare u (view_expression value) t
  node_bare u (expr.Number n) t chain one = (refl, λ x p. refl)
  node_bare u expr.NullPointer t chain one = (refl, λ x p. refl)
  node_bare u expr.HeapRegion t chain one = (refl, λ x p. refl)
  node_bare u (expr.Counter n) t chain one = (refl, λ x p. refl)
  node_bare u (expr.Copy l y) t chain one = (refl, λ x p. refl)
  node_bare u (expr.Move s n y) t chain one = (refl, λ x p. refl)
  node_bare u (expr.Peek s n y) t chain one = (refl, λ x p. refl)
  node_bare u (expr.Load' b d) t chain one = (refl, λ x p. refl)
  node_bare u (expr.AddressOf l y) t chain one = (refl, λ x p. refl)
  node_bare u (expr.AddressOfCell' b d y) t chain one = (refl, λ x p. refl)
  node_bare u (expr.NumberOfElements' b e) t chain one = (refl, λ x p. refl)
  node_bare u (expr.FreeUnique' b e) t chain one = (refl, λ x p. refl)
  node_bare u (expr.FreeKey' b e) t chain one = (refl, λ x p. refl)
  node_bare u (expr.Call' s f shape row y) t chain one = (refl, λ x p. refl)
  node_bare u (expr.Unary' o b e) t chain one = absurd (one _ _ (sym (roll-out-Expr (expr.Unary' o b e)) ∙ ap roll-Expr (expr.outs-Unary' o b e) ∙ expr.rolls-Unary _ _))
  node_bare u (expr.Binary' b e shape row y) t chain one =
      absurd (chain _ _ _ (sym (roll-out-Expr (expr.Binary' b e shape row y)) ∙ ap roll-Expr (expr.outs-Binary' b e shape row y) ∙ expr.rolls-Binary _ _ _))
  node_bare u (expr.Assign' l b f k e y) t chain one = (refl, λ x p. refl)
  node_bare u (expr.Store' b d b' f k e y) t chain one = (refl, λ x p. refl)
  node_bare u (expr.New' s w b i y) t chain one = (refl, λ x p. refl)

  pub bare_tested : (u : LogicalOperator) (a : Expression) (t : ℕ) (old new : List Instruction) (tested : Tested) → IsBare u a t → IsSettled starts (turned_test u) a t old new tested → IsBranch starts u a t old new tested
  bare_tested u a t old new tested (last, code) made =
      let p = length old in
      same_tested (choice_of starts (turned_test u) a t) (branch_of starts u a t) (λ x. choice_code starts (turned_test u) a p t) (λ x. branch_code starts u a x p t) old new tested last (λ x. code x p) made

pub some_tests : (u : LogicalOperator) (xs : List Operation) → (length xs == 0) ≡ false → are_tests u (operations_of xs) ≡ all_test u (operations_of xs)
some_tests u [] some = absurd (let z : true ≡ false = some in cc)
some_tests u (operation.Test o e ∷ xs) some = refl
some_tests u (operation.Compute w o e ∷ xs) some = refl
some_tests u (operation.Pointer o e ∷ xs) some = refl
some_tests u (operation.PointerPeek n o e ∷ xs) some = refl
