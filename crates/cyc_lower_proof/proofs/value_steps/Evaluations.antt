-- This file proves the steps that begin an expression, for every destination of its value. The expression may also be the right operand
-- of an operator, or a condition.
use Rattle.std.proofs.Common.{◌≡◌, ℕ, ◌+◌, Bool, true, false, List, [], ◌∷◌, map, Option, None, Some, refl, sym, ap, subst, ◌∙◌, arith, inl, inr}
use Rattle.std.specs.Prelude.{option_map, is_some}
use Rattle.std.proofs.lemmas.List.{length-map}
use Rattle.cyc_types.specs.declared.typed.Kind.{Kind}
use Rattle.cyc_types.specs.declared.typed.UnaryOperator.TheVariants as unary
use Rattle.cyc_types.specs.declared.typed.Operator.{Operator}
use Rattle.cyc_types.specs.Types.{Ty}
use Rattle.cyc_types.specs.TypedTrees.{Dereference, Target, Expression, Number, Unary, Binary, Operations, NoOperations, ThenCompute, ThenTest, ThenPointer, Program, ThenPointerPeek, peeked, Member, Element}
use Rattle.cyc_types.specs.declared.typed.PointerOperator.{PointerOperator}
use Rattle.cyc_plain.specs.declared.instruction.Comparison.{Comparison}
use Rattle.cyc_plain.specs.declared.instruction.Comparison.TheVariants as comparisons
use Rattle.cyc_plain.specs.declared.instruction.Operand.{Operand}
use Rattle.cyc_plain.specs.declared.instruction.Operand.TheVariants as operands
use Rattle.cyc_plain.specs.declared.instruction.BinaryOperator.TheVariants as plain_binary
use Rattle.cyc_plain.specs.declared.instruction.Instruction.{Instruction}
use Rattle.cyc_plain.specs.declared.instruction.Instruction.TheVariants as instructions
use Rattle.cyc_plain.specs.inside.State as plain
use Rattle.cyc_plain.specs.inside.State.{Words, Frame, Configuration}
use Rattle.cyc_plain.specs.inside.Straight.{At as CodeAt}
use Rattle.cyc_lower_proof.proofs.value_steps.ValueWords.{opposite_twice}
use Rattle.cyc_plain.specs.inside.Step.{at}
use Rattle.cyc_meaning.specs.Values.{kind_of, bytes_of_kind, is_thin}
use Rattle.cyc_meaning.specs.State.{World, Environment, Operate, Chain, Apply, ApplyPointer, Decide, Choose, Test, Follow, Entry, Needs, Evaluating, Locating, Given, Running, FollowMember, Index, Advance}
use Rattle.cyc_lower_proof.proofs.relation.contents.Counters.{CountersHold, counters_hold}
use Rattle.cyc_meaning.specs.Step.{target_of, passes, step}
use Rattle.cyc_lower_proof.specs.inside.Slots.{field_in, Types, Starts}
use Rattle.cyc_meaning.specs.Places.{locates_member}
use Rattle.cyc_lower_proof.proofs.place_steps.PlaceWords.{field_bytes}
use Rattle.cyc_lower_proof.specs.inside.ValueCode.{failing_comparison, left_with, followed_operand, span_in, reached_operand}
use Rattle.cyc_lower_proof.specs.inside.ControlCode.{compared_or, opposite, compared_of, null_compared, pointers_failing, nulled_or}
use Rattle.cyc_lower_proof.specs.inside.ExpressionCode.{operand_of, value_slot, slot_with, pointer_of, is_simple, are_simple}
use Rattle.cyc_lower_proof.proofs.relation.code.Stands.{OperandBy, ExpressionAt, ValueAt, PairAt, ConditionAt, ReturnedAt, ReachedAt, BranchesAt, TestsAt, ForkAt, ComparedAt, Ends}
use Rattle.cyc_memory_relation.specs.inside.Tables.{Tables}
use Rattle.cyc_lower_proof.proofs.relation.contents.HeldValues.{Holds, held, IsLow, callers, AreCounted}
use Rattle.cyc_lower_proof.proofs.relation.simulation.Relation.{DataIn, SharedAt, RightAt, EvaluatingAt, as_operand, into_slot, for_effect, as_right, as_condition, with_left, BesideAt}
use Rattle.cyc_lower_proof.proofs.relation.simulation.Stacks.{types_on, starts_on, given_at, in_temporary, to_jump, ValueStack, PlaceStack, ConditionStack, DecidedStack, code_of, bounds_at, top, floor}
use Rattle.cyc_types.specs.Numbered.{Numbering}
use Rattle.cyc_lower_proof.proofs.relation.simulation.Accesses.{IsWell}
use Rattle.cyc_lower_proof.proofs.relation.simulation.Matched.{silently}
use Rattle.cyc_plain.specs.declared.instruction.Instruction.{Instruction}
use Rattle.cyc_lower_proof.proofs.relation.places.Leads.{AreNamed}
use Rattle.cyc_lower_proof.proofs.relation.code.Tested.{compared_whole, tests_go}
use Rattle.cyc_types.specs.declared.typed.UnaryOperator.{UnaryOperator}
use Rattle.cyc_words.proofs.Booleans.{and_left, and_right}
use Rattle.cyc_lower_proof.proofs.value_steps.Landings.{IsStep, reads}
use Rattle.cyc_lower_proof.proofs.value_steps.Beginnings.{At_step, IsBegun, low_here, chain_begins, comes, only_computed, operand, for_its_effect}

module _ (source : Program) (pages calls : ℕ) where
  -- An expression that needs no code is simple, that is, its evaluation has no effect.
  pub known_simple : (starts : Starts) (a : Expression) → is_some (operand_of starts a) ≡ true → is_simple starts a ≡ true
  known_simple starts (Binary a os t) some = absurd (let f : false ≡ true = some in cc)
  known_simple starts (Unary unary.Widen a) some = some
  known_simple starts (Unary u a) some = absurd (let f : false ≡ true = some in cc)
  known_simple starts a some = some

  -- If an expression needs no instructions, then its value is in the slot or constant that the code generator found for it.
  pub known_operand_is : (code : List Instruction) (b : Numbering) (types : Types) (known : Option Operand) (computed : Type 0) (slot : ℕ) (o : Operand) (p q : ℕ) → is_some known ≡ true
      → OperandBy code b types known computed slot o p q → (known ≡ Some o) × (p ≡ q)
  known_operand_is code b types (Some x) computed slot o p q some (is, end) = (ap Some (sym is), end)
  known_operand_is code b types None computed slot o p q some at = absurd (let f : false ≡ true = some in cc)

  -- The loop counters that fill arrays stay in their slots while the value of an operator's left operand stays in its own slot.
  counters_beside : (t : Tables) (e : Environment) (g : ℕ) (o : Operand) (p : ℕ) (slots : Words) (frames : List Frame) (k : List Entry) → AreCounted e.counters k → BesideAt source t e.locals g o p slots frames k
      → CountersHold e.counters slots (floor source g k) k
  counters_beside t e g o p slots frames (Needs (Apply u left) ∷ k) counted (l, is, low, inl (holds, applied)) = counters_hold t e.counters slots (floor source g k) k counted holds
  counters_beside t e g o p slots frames (Needs (Apply u left) ∷ k) counted (l, is, low, inr (q, at, beside)) = counters_beside t e g (operands.Slot (top source g k)) q slots frames k counted beside
  counters_beside t e g o p slots frames (Needs (ApplyPointer peek u left) ∷ k) counted (l, failing, is, low, holds, either) = counters_hold t e.counters slots (floor source g k) k counted holds
  counters_beside t e g o p slots frames (Needs (Advance peek target base) ∷ k) counted (n, q, is, low, holds, advances) = counters_hold t e.counters slots (floor source g k) k counted holds
  counters_beside t e g o p slots frames (Needs (Chain os) ∷ k) counted (q, low, simple, at, beside) = counters_beside t e g (operands.Slot (top source g k)) q slots frames k counted beside
  counters_beside t e g o p slots frames (Needs (Operate unary.Widen) ∷ k) counted beside = counters_beside t e g o p slots frames k counted beside
  counters_beside t e g o p slots frames (Needs (Operate u) ∷ k) counted (at, beside) = counters_beside t e g (operands.Slot (top source g k)) (p + 1) slots frames k counted beside
  counters_beside t e g o p slots frames k counted beside = absurd beside

  -- If an operator chain is a right operand without effects, then the first operand of the chain has no effects either.
  simple_begins : (u : Operator) (a b : Expression) (os : Operations) (ty : Ty) (k : List Entry) (e : Environment) (w : World) (c : Configuration) (r : Operand) (q : ℕ) (shared : SharedAt source pages calls k e w c) → DataIn source shared.tables c.active.slots k e w c
      → is_simple (starts_on source c.active.function k) (Binary a (ThenCompute u b os) ty) ≡ true
      → ValueAt (code_of source c.active.function) (bounds_at source c.active.function) (types_on source c.active.function k) (Binary a (ThenCompute u b os) ty) (top source c.active.function k) r c.active.next q
      → BesideAt source shared.tables e.locals c.active.function r q c.active.slots c.frames k → IsBegun source pages calls (Binary a (ThenCompute u b os) ty) k e w c
  simple_begins u a b os ty k e w c r q shared facts simple (r_is, (l, m, at_a, at)) beside =
      let g = c.active.function in
      let starts = starts_on source g k in
      let t = top source g k in
      let first = and_left (is_simple starts a) (are_simple starts (ThenCompute u b os)) simple in
      let rest = and_right (is_simple starts a) (are_simple starts (ThenCompute u b os)) simple in
      let second = known_simple starts b (and_left (is_some (operand_of starts b)) (are_simple starts os) rest) in
      let at_left : ValueAt (code_of source g) (bounds_at source g) (types_on source g k) a t l c.active.next m =
      subst (λ (s : Bool). OperandBy (code_of source g) (bounds_at source g) (types_on source g k) (left_with s (operand_of starts a)) (ExpressionAt (code_of source g) (bounds_at source g) (types_on source g k) a (slot_with starts s a t) t c.active.next m) (slot_with starts s a t) l c.active.next m)
      second at_a in
      silently source pages calls (Running (Evaluating (Binary a (ThenCompute u b os) ty)) k e w) (Running (Evaluating a) (Needs (Chain (ThenCompute u b os)) ∷ k) e w) (plain.Running c) refl (
        shared,
        facts,
        as_right (
          l,
          m,
          first,
          at_left,
          (q, low_here source pages calls a k c l m at_left, rest, at, subst (λ (x : Operand). BesideAt source shared.tables e.locals g x q c.active.slots c.frames k) r_is beside),
        ),
      )
      (omega arith)

  -- The source evaluates a unary operator for which the plain program needs no instruction.
  simple_computes : (u : UnaryOperator) (a : Expression) (k : List Entry) (e : Environment) (w : World) (c : Configuration) (o : Operand) (m : ℕ) (shared : SharedAt source pages calls k e w c) → DataIn source shared.tables c.active.slots k e w c
      → is_some (operand_of (starts_on source c.active.function k) a) ≡ true
      → ValueAt (code_of source c.active.function) (bounds_at source c.active.function) (types_on source c.active.function k) a (top source c.active.function k) o c.active.next m
      → BesideAt source shared.tables e.locals c.active.function o m c.active.slots c.frames (Needs (Operate u) ∷ k) → IsBegun source pages calls (Unary u a) k e w c
  simple_computes u a k e w c o m shared facts some at_a beside =
      silently source pages calls (Running (Evaluating (Unary u a)) k e w) (Running (Evaluating a) (Needs (Operate u) ∷ k) e w) (plain.Running c) refl
      (shared, facts, as_right (o, m, known_simple (starts_on source c.active.function k) a some, at_a, beside))
      (omega arith)

  -- The result of a unary operator that needs no instruction is the right operand of an operator whose left operand is
  -- already in a slot or constant.
  unary_beside : (t : Tables) (locals : ℕ → Option ℕ) (g : ℕ) (r : Operand) (m q : ℕ) (slots : Words) (frames : List Frame) (k : List Entry) → r ≡ operands.Slot (top source g k) → m + 1 ≡ q → BesideAt source t locals g r q slots frames k
      → BesideAt source t locals g (operands.Slot (top source g k)) (m + 1) slots frames k
  unary_beside t locals g r m q slots frames k is end beside =
      subst (λ p. BesideAt source t locals g (operands.Slot (top source g k)) p slots frames k) (sym end) (subst (λ x. BesideAt source t locals g x q slots frames k) is beside)

  -- A right operand whose evaluation has no effect is evaluated, while the left operand stays in its slot or constant.
  beside_left : (a : Expression) (k : List Entry) (e : Environment) (w : World) (c : Configuration) → IsWell (step source (Running (Evaluating a) k e w)) → (shared : SharedAt source pages calls k e w c) → DataIn source shared.tables c.active.slots k e w c
      → RightAt source shared.tables a e.locals c.active.function c.active.next c.active.slots c.frames k → IsBegun source pages calls a k e w c
  beside_left (Unary unary.Widen a) k e w c well shared facts (r, q, simple, there, beside) =
      let g = c.active.function in
      silently source pages calls (Running (Evaluating (Unary unary.Widen a)) k e w) (Running (Evaluating a) (Needs (Operate unary.Widen) ∷ k) e w) (plain.Running c) refl (
        shared,
        facts,
        as_right (
          r,
          q,
          known_simple (starts_on source g k) a simple,
          only_computed source pages calls (code_of source g) (bounds_at source g) (types_on source g k) (operand_of (starts_on source g k) a) _ _ _ r c.active.next q there,
          beside,
        ),
      )
      (omega arith)
  beside_left (Unary u a) k e w c well shared facts (r, q, simple, (is, (o, m, at_a, at, end)), beside) =
      simple_computes u a k e w c o m shared facts simple at_a (at, unary_beside shared.tables e.locals c.active.function r m q c.active.slots c.frames k is end beside)
  beside_left (Binary a (ThenCompute u b os) ty) k e w c well shared facts (r, q, simple, there, beside) = simple_begins u a b os ty k e w c r q shared facts simple there beside
  beside_left (Binary a os ty) k e w c well shared facts (r, q, simple, there, beside) = absurd (let f : false ≡ true = simple in cc)
  beside_left a k e w c well shared facts (r, q, simple, there, beside) =
      let g = c.active.function in
      let starts = starts_on source g k in
      let t = top source g k in
      let slot = value_slot starts a t in
      let (known, end) =
      known_operand_is (code_of source g) (bounds_at source g) (types_on source g k) (operand_of starts a) (ExpressionAt (code_of source g) (bounds_at source g) (types_on source g k) a slot t c.active.next q) slot r c.active.next q simple there in
      let counters = counters_beside shared.tables e g r q c.active.slots c.frames k shared.counters.0 beside in
      let found = reads source pages calls shared.tables a r k e w c known tt well counters facts shared.related.heap in
      silently source pages calls (Running (Evaluating a) k e w) (Running (Given found.value) k e w) (plain.Running c) found.gives
      (shared, with_left facts (r, found.is, subst (λ p. BesideAt source shared.tables e.locals g r p c.active.slots c.frames k) (sym end) beside))
      (omega (arith, found.some))

  -- The value of an operand is tested by the next jump.
  tested_value : (g : ℕ) (locals : ℕ → Option ℕ) (kind : Kind) (o : Operand) (p : ℕ) (frames : List Frame) (k : List Entry) → IsLow o (top source g k) → ConditionStack source g comparisons.Equal o (operands.Word 0) p frames k
      → ValueStack source g locals kind o p frames k
  tested_value g locals kind o p frames [] low (f, h, fork, first, second) = absurd first
  tested_value g locals kind o p frames (Needs (Chain NoOperations) ∷ k) low stack = tested_value g locals kind o p frames k low stack
  tested_value g locals kind o p frames (Needs (Chain (ThenTest u b os)) ∷ k) low stack = (low, to_jump (inr stack))
  tested_value g locals kind o p frames (Needs (Chain os) ∷ k) low (f, h, fork, first, second) = absurd first
  tested_value g locals kind o p frames (Needs Decide ∷ k) low stack = to_jump stack
  tested_value g locals kind o p frames (Needs (Operate unary.Not) ∷ k) low stack = to_jump (refl, stack)
  tested_value g locals kind o p frames (Needs (Choose s t) ∷ k) low stack = stack
  tested_value g locals kind o p frames (Needs (Test a s) ∷ k) low stack = stack
  tested_value g locals kind o p frames (entry ∷ k) low (f, h, fork, first, second) = absurd first

  -- The code after two compared operands; the second operand is the constant 0, which needs no code.
  alone : (g : ℕ) (failing : Comparison) (l r : Operand) (p q : ℕ) (frames : List Frame) (k : List Entry) → r ≡ operands.Word 0 → p ≡ q
      → ConditionStack source g failing l r q frames k → ConditionStack source g failing l (operands.Word 0) p frames k
  alone g failing l r p q frames k is end stack =
      subst (λ x. ConditionStack source g failing l x p frames k) is (subst (λ x. ConditionStack source g failing l r x frames k) (sym end) stack)

  not_zero : (a : Expression) (k : List Entry) (e : Environment) (w : World) (c : Configuration) (l r : Operand) (q : ℕ) → At_step source pages calls a k e w c
      → PairAt (code_of source c.active.function) (bounds_at source c.active.function) (types_on source c.active.function k) a (Number 0) l r (top source c.active.function k) c.active.next q
      → ConditionStack source c.active.function comparisons.Equal l r q c.frames k → IsBegun source pages calls a k e w c
  not_zero a k e w c l r q known (m, at_a, (is, end)) stack =
      operand source pages calls a k e w c l m known at_a (tested_value c.active.function e.locals (given_at source c.active.function a) l m c.frames k (low_here source pages calls a k c l m at_a) (alone c.active.function comparisons.Equal l r m q c.frames k is end stack))

  compares : (f : Option Comparison) (o : Operator) (a b : Expression) (t : Ty) (k : List Entry) (e : Environment) (w : World) (c : Configuration) (l r : Operand) (q : ℕ) → failing_comparison o ≡ f
      → At_step source pages calls (Binary a (ThenCompute o b NoOperations) t) k e w c
      → PairAt (code_of source c.active.function) (bounds_at source c.active.function) (types_on source c.active.function k) (compared_or f a b (Binary a (ThenCompute o b NoOperations) t)).left
      (compared_or f a b (Binary a (ThenCompute o b NoOperations) t)).right l r (top source c.active.function k) c.active.next q
      → ConditionStack source c.active.function (compared_or f a b (Binary a (ThenCompute o b NoOperations) t)).failing l r q c.frames k → IsBegun source pages calls (Binary a (ThenCompute o b NoOperations) t) k e w c
  compares (Some failing) o a b t k e w c l r q is known (m, at_a, at_b) stack =
      chain_begins source pages calls (is_simple (starts_on source c.active.function k) b) a (ThenCompute o b NoOperations) t k e w c l m known at_a (λ low. (low, to_jump (inl (failing, r, q, (is, at_b), stack))))
  compares None o a b t k e w c l r q is known at stack = not_zero (Binary a (ThenCompute o b NoOperations) t) k e w c l r q known at stack

  compares_null : (f g : Option Comparison) (o : PointerOperator) (a b : Expression) (t : Ty) (k : List Entry) (e : Environment) (w : World) (c : Configuration) (l r : Operand) (q : ℕ) → null_compared o b ≡ f → pointers_failing o ≡ g
      → At_step source pages calls (Binary a (ThenPointer o b NoOperations) t) k e w c
      → PairAt (code_of source c.active.function) (bounds_at source c.active.function) (types_on source c.active.function k) (nulled_or f g a b (Binary a (ThenPointer o b NoOperations) t)).left
      (nulled_or f g a b (Binary a (ThenPointer o b NoOperations) t)).right l r (top source c.active.function k) c.active.next q
      → ConditionStack source c.active.function (nulled_or f g a b (Binary a (ThenPointer o b NoOperations) t)).failing l r q c.frames k → IsBegun source pages calls (Binary a (ThenPointer o b NoOperations) t) k e w c
  compares_null (Some failing) g o a b t k e w c l r q is none known (m, at_a, (same, end)) stack =
      chain_begins source pages calls true a (ThenPointer o b NoOperations) t k e w c l m known at_a (λ low. (low, to_jump (inl (failing, r, q, inl (is, same, end), stack))))
  compares_null None (Some failing) o a b t k e w c l r q none is known (m, at_a, at_b) stack =
      chain_begins source pages calls (is_simple (starts_on source c.active.function k) b) a (ThenPointer o b NoOperations) t k e w c l m known at_a (λ low. (low, to_jump (inl (failing, r, q, inr (is, at_b), stack))))
  compares_null None None o a b t k e w c l r q is none known at stack = not_zero (Binary a (ThenPointer o b NoOperations) t) k e w c l r q known at stack

  compares_peek : (f g : Option Comparison) (n : ℕ) (o : PointerOperator) (a b : Expression) (t : Ty) (k : List Entry) (e : Environment) (w : World) (c : Configuration) (l r : Operand) (q : ℕ) → null_compared o b ≡ f → pointers_failing o ≡ g
      → At_step source pages calls (Binary a (ThenPointerPeek n o b NoOperations) t) k e w c
      → PairAt (code_of source c.active.function) (bounds_at source c.active.function) (types_on source c.active.function k) (nulled_or f g a b (Binary a (ThenPointerPeek n o b NoOperations) t)).left
      (nulled_or f g a b (Binary a (ThenPointerPeek n o b NoOperations) t)).right l r (top source c.active.function k) c.active.next q
      → ConditionStack source c.active.function (nulled_or f g a b (Binary a (ThenPointerPeek n o b NoOperations) t)).failing l r q c.frames k → IsBegun source pages calls (Binary a (ThenPointerPeek n o b NoOperations) t) k e w c
  compares_peek (Some failing) g n o a b t k e w c l r q is none known (m, at_a, (same, end)) stack =
      chain_begins source pages calls true a (ThenPointerPeek n o b NoOperations) t k e w c l m known at_a (λ low. (low, to_jump (inl (failing, r, q, inl (is, same, end), stack))))
  compares_peek None (Some failing) n o a b t k e w c l r q none is known (m, at_a, at_b) stack =
      chain_begins source pages calls (is_simple (starts_on source c.active.function k) b) a (ThenPointerPeek n o b NoOperations) t k e w c l m known at_a (λ low. (low, to_jump (inl (failing, r, q, inr (is, at_b), stack))))
  compares_peek None None n o a b t k e w c l r q is none known at stack = not_zero (Binary a (ThenPointerPeek n o b NoOperations) t) k e w c l r q known at stack

  -- A negated condition jumps to the two targets of the original condition, with the targets exchanged.
  turned : (g : ℕ) (failing : Comparison) (l r : Operand) (p : ℕ) (frames : List Frame) (k : List Entry) → ConditionStack source g (opposite failing) l r p frames k
      → (f : ℕ) × (h : ℕ) × ForkAt (code_of source g) (bounds_at source g) (types_on source g k) failing l r p f h × DecidedStack source g false f frames k × DecidedStack source g true h frames k
  turned g failing l r p frames k (f, h, inl (jump, following), first, second) = (h, f, inr (jump, following), second, first)
  turned g failing l r p frames k (f, h, inr (jump, following), first, second) =
      (h, f, inl (subst (λ (c : Comparison). CodeAt (code_of source g) p (instructions.Branch c l r h)) (opposite_twice failing) jump, following), second, first)

  compared_begins : (a : Expression) (k : List Entry) (e : Environment) (w : World) (c : Configuration) (l r : Operand) (q : ℕ) → At_step source pages calls a k e w c
      → ConditionAt (code_of source c.active.function) (bounds_at source c.active.function) (types_on source c.active.function k) a l r (top source c.active.function k) c.active.next q
      → ConditionStack source c.active.function (compared_of a).failing l r q c.frames k → IsBegun source pages calls a k e w c
  compared_begins (Unary unary.Not a) k e w c l r q (well, shared, facts, holds, names) at stack =
      let g = c.active.function in
      let (f, h, fork, first, second) = turned g (compared_of a).failing l r q c.frames k stack in
      silently source pages calls (Running (Evaluating (Unary unary.Not a)) k e w) (Running (Evaluating a) (Needs (Operate unary.Not) ∷ k) e w) (plain.Running c) refl
      (shared, facts, as_condition f h (compared_whole (code_of source g) (bounds_at source g) (types_on source g k) a f h (top source g k) c.active.next (l, r, q, at, fork)) holds first second)
      (omega arith)
  compared_begins (Binary a (ThenCompute o b NoOperations) t) k e w c l r q known at stack = compares (failing_comparison o) o a b t k e w c l r q refl known at stack
  compared_begins (Binary a (ThenPointer o b NoOperations) t) k e w c l r q known at stack = compares_null (null_compared o b) (pointers_failing o) o a b t k e w c l r q refl refl known at stack
  compared_begins (Binary a (ThenPointerPeek n o b NoOperations) t) k e w c l r q known at stack = compares_peek (null_compared o b) (pointers_failing o) n o a b t k e w c l r q refl refl known at stack
  compared_begins a k e w c l r q known at stack = not_zero a k e w c l r q known at stack

  -- The code of a condition reaches one of two code positions: f if it fails, and h if it holds.
  condition : (a : Expression) (k : List Entry) (e : Environment) (w : World) (c : Configuration) (f h : ℕ) → At_step source pages calls a k e w c
      → BranchesAt (code_of source c.active.function) (bounds_at source c.active.function) (types_on source c.active.function k) a f h (top source c.active.function k) c.active.next
      → DecidedStack source c.active.function true f c.frames k → DecidedStack source c.active.function false h c.frames k → IsBegun source pages calls a k e w c
  condition a k e w c f h known at first second = by a known at
    where
      g : ℕ
      g = c.active.function

      whole : (a : Expression) → At_step source pages calls a k e w c → ComparedAt (code_of source g) (bounds_at source g) (types_on source g k) a f h (top source g k) c.active.next → IsBegun source pages calls a k e w c
      whole a known (l, r, m, at, fork) = compared_begins a k e w c l r m known at (f, h, fork, first, second)

      ends : (fails : Bool) (p : ℕ) → Ends (code_of source g) (bounds_at source g) (types_on source g k) f h fails p → DecidedStack source g fails p c.frames k
      ends true p is = subst (λ q. DecidedStack source g true q c.frames k) (sym is) first
      ends false p is = subst (λ q. DecidedStack source g false q c.frames k) (sym is) second

      tests : (os : Operations) (fails : Bool) (p : ℕ) → TestsAt (code_of source g) (bounds_at source g) (types_on source g k) os fails (top source g k) p (Ends (code_of source g) (bounds_at source g) (types_on source g k) f h)
          → TestsAt (code_of source g) (bounds_at source g) (types_on source g k) os fails (top source g k) p (λ after q. DecidedStack source g after q c.frames k)
      tests os fails p at = tests_go (code_of source g) (bounds_at source g) (types_on source g k) ends os fails (top source g k) p at

      by : (a : Expression) → At_step source pages calls a k e w c → BranchesAt (code_of source g) (bounds_at source g) (types_on source g k) a f h (top source g k) c.active.next → IsBegun source pages calls a k e w c
      by (Unary unary.Not a) known (inl at) = whole (Unary unary.Not a) known at
      by (Unary unary.Not a) (well, shared, facts, holds, names) (inr at) =
          silently source pages calls (Running (Evaluating (Unary unary.Not a)) k e w) (Running (Evaluating a) (Needs (Operate unary.Not) ∷ k) e w) (plain.Running c) refl
          (shared, facts, as_condition h f at holds second first)
          (omega arith)
      by (Binary a (ThenTest u b os) t) known (inl at) = whole (Binary a (ThenTest u b os) t) known at
      by (Binary a (ThenTest u b os) t) (well, shared, facts, holds, names) (inr (x, y, at, fails, passes)) =
          silently source pages calls (Running (Evaluating (Binary a (ThenTest u b os) t)) k e w) (Running (Evaluating a) (Needs (Chain (ThenTest u b os)) ∷ k) e w) (plain.Running c) refl
          (shared, facts, as_condition x y at holds (tests (ThenTest u b os) true x fails) (tests (ThenTest u b os) false y passes))
          (omega arith)
      by a known at = whole a known at

  -- A fat pointer whose index is evaluated afterwards is moved to temporaries, or stays in its local.
  pointer_begins : (t : Tables) (peek : Option ℕ) (target : Option Kind) (a i : Expression) (n : ℕ) (x : Operand) (m r q : ℕ) (k : List Entry) (e : Environment) (w : World) (c : Configuration)
      → Holds t c.active.slots (floor source c.active.function k) (held k)
      → ReturnedAt (code_of source c.active.function) (bounds_at source c.active.function) (types_on source c.active.function k) (pointer_of (starts_on source c.active.function k) a i)
      (ExpressionAt (code_of source c.active.function) (bounds_at source c.active.function) (types_on source c.active.function k) a (top source c.active.function k) (top source c.active.function k) c.active.next m)
      (top source c.active.function k) n c.active.next m
      → ValueAt (code_of source c.active.function) (bounds_at source c.active.function) (types_on source c.active.function k) i (top source c.active.function k + 3) x m r
      → CodeAt (code_of source c.active.function) r (instructions.Binary plain_binary.Add (top source c.active.function k + 2) (operands.Slot (n + 2)) x)
      → ReachedAt (code_of source c.active.function) (bounds_at source c.active.function) (types_on source c.active.function k) (option_map bytes_of_kind target) n (top source c.active.function k + 2) (top source c.active.function k) (r + 1) q
      → PlaceStack source c.active.function e.locals (reached_operand (option_map bytes_of_kind target) n (top source c.active.function k)) 0 q c.frames k
      → EvaluatingAt source t a e.locals c.active.function c.active.next c.active.slots c.frames (Needs (Index peek target i) ∷ k)
  pointer_begins t peek target a i n x m r q k e w c holds at_a at_i sum reached place =
      by (is_simple (starts_on source g k) i) (operand_of (starts_on source g k) a) refl refl at_a
    where
      g : ℕ
      g = c.active.function

      Computed : Type 0
      Computed = ExpressionAt (code_of source g) (bounds_at source g) (types_on source g k) a (top source g k) (top source g k) c.active.next m

      Begun : Type 0
      Begun = EvaluatingAt source t a e.locals g c.active.next c.active.slots c.frames (Needs (Index peek target i) ∷ k)

      -- The fat pointer whose index is evaluated next is in temporaries.
      brought_there : n ≡ top source g k → Computed → Begun
      brought_there there computed =
          into_slot (top source g k) m computed holds (in_temporary (omega arith) (inl (
            x,
            r,
            q,
            refl,
            at_i,
            subst (λ s. CodeAt (code_of source g) r (instructions.Binary plain_binary.Add (top source g k + 2) (operands.Slot (s + 2)) x)) there sum,
            subst (λ s. ReachedAt (code_of source g) (bounds_at source g) (types_on source g k) (option_map bytes_of_kind target) s (top source g k + 2) (top source g k) (r + 1) q) there reached,
            subst (λ s. PlaceStack source g e.locals (reached_operand (option_map bytes_of_kind target) s (top source g k)) 0 q c.frames k) there place,
          )))

      by : (simple : Bool) (pointer : Option Operand) → is_simple (starts_on source g k) i ≡ simple → operand_of (starts_on source g k) a ≡ pointer
          → ReturnedAt (code_of source g) (bounds_at source g) (types_on source g k) (left_with simple pointer) Computed (top source g k) n c.active.next m → Begun
      by false pointer i_is a_is (there, computed) = brought_there there computed
      by true None i_is a_is (there, computed) = brought_there there computed
      by true (Some (operands.Word z)) i_is a_is (there, computed) = brought_there there computed
      by true (Some (operands.Slot s)) i_is a_is (there, begins) =
          let at_pointer : ValueAt (code_of source g) (bounds_at source g) (types_on source g k) a (top source g k) (operands.Slot n) c.active.next m =
          subst (λ (known : Option Operand). OperandBy (code_of source g) (bounds_at source g) (types_on source g k) known (ExpressionAt (code_of source g) (bounds_at source g) (types_on source g k) a (value_slot (starts_on source g k) a (top source g k)) (top source g k) c.active.next m) (value_slot (starts_on source g k) a (top source g k)) (operands.Slot n) c.active.next m)
          (sym a_is) (ap operands.Slot there, begins) in
          as_operand (operands.Slot n) m at_pointer holds (inr (n, x, r, q, refl, low_here source pages calls a k c (operands.Slot n) m at_pointer, i_is, at_i, sum, reached, place))

  -- The address of a memory access through a pointer begins with the evaluation of the pointer.
  pub locating : (x : Dereference) (k : List Entry) (e : Environment) (w : World) (c : Configuration) → IsStep source pages calls (Locating x) k e w c
  locating (Target pointer a t) k e w c well (shared, facts, (o, offset, q, (x, m, at_a, access, is, none), holds, place)) =
      let g = c.active.function in
      let there = subst (λ b. PlaceStack source g e.locals (followed_operand (is_thin pointer) (span_in t) x (top source g k)) b q c.frames k) none (subst (λ y. PlaceStack source g e.locals y offset q c.frames k) is place) in
      silently source pages calls (Running (Locating (Target pointer a t)) k e w) (Running (Evaluating a) (Needs (Follow pointer (target_of t)) ∷ k) e w) (plain.Running c) refl
      (shared, facts, as_operand x m at_a holds (q, low_here source pages calls a k c x m at_a, access, there))
      (omega arith)
  locating (Member pointer a s field t) k e w c well (shared, facts, (o, offset, q, (m, at_a, thin, check, (st, there, inside), is), holds, place)) =
      let fields = map kind_of st.fields in
      silently source pages calls (Running (Locating (Member pointer a s field t)) k e w) (Running (Evaluating a) (Needs (FollowMember pointer fields field) ∷ k) e w) (plain.Running c)
      (ap (λ z. locates_member z pointer a field k e w) there) (
        shared,
        facts,
        as_operand o m at_a holds
            (offset, q, thin, check, omega (arith, inside, length-map st.fields kind_of), λ below. is ∙ ap (λ z. field_in z field) there ∙ field_bytes st.fields field below, place),
      )
      (omega arith)
  locating (Element a i t) k e w c well (shared, facts, (o, offset, q, (n, x, m, r, at_a, at_i, sum, reached, is, none), holds, place)) =
      let g = c.active.function in
      let there = subst (λ b. PlaceStack source g e.locals (reached_operand (span_in t) n (top source g k)) b q c.frames k) none (subst (λ y. PlaceStack source g e.locals y offset q c.frames k) is place) in
      silently source pages calls (Running (Locating (Element a i t)) k e w) (Running (Evaluating a) (Needs (Index (peeked (Element a i t)) (target_of t) i) ∷ k) e w) (plain.Running c) refl
      (shared, facts, pointer_begins shared.tables (peeked (Element a i t)) (target_of t) a i n x m r q k e w c holds at_a at_i sum reached there)
      (omega arith)

  pub evaluating : (a : Expression) (k : List Entry) (e : Environment) (w : World) (c : Configuration) → AreNamed source e.locals (callers k) w c.active.function c.active.base c.frames c.store → IsStep source pages calls (Evaluating a) k e w c
  evaluating a k e w c names well (shared, facts, as_operand o q at holds stack) = operand source pages calls a k e w c o q (well, shared, facts, holds, names) at stack
  evaluating a k e w c names well (shared, facts, into_slot d q at holds lands) = comes source pages calls a k e w c d q (well, shared, facts, holds, names) at lands
  evaluating a k e w c names well (shared, facts, for_effect q at holds stack) = for_its_effect source pages calls a k e w c q (well, shared, facts, holds, names) at stack
  evaluating a k e w c names well (shared, facts, as_right right) = beside_left a k e w c well shared facts right
  evaluating a k e w c names well (shared, facts, as_condition f h at holds first second) = condition a k e w c f h (well, shared, facts, holds, names) at first second
