-- This file proves the steps that pass a value to an operator.
use Rattle.std.proofs.Common.{◌≡◌, ◌≢◌, ℕ, zero, suc, ◌+◌, ◌<◌, Bool, true, false, not, List, ◌∷◌, Option, None, Some, refl, sym, ap, subst, ◌∙◌, arith, inl, inr, bit_and}
use Rattle.std.specs.Prelude.{◌==◌, if◌then◌else◌, ◌%◌, is_some}
use Rattle.std.proofs.lemmas.Bool.{eqb-true, false_from_ne_true}
use Rattle.std.proofs.lemmas.Option.{none-some}
use Rattle.cyc_words.proofs.Numbers.{bit_and_255}
use Rattle.cyc_types.specs.declared.typed.Kind.{Kind}
use Rattle.cyc_types.specs.declared.typed.Kind.TheVariants as kinds
use Rattle.cyc_types.specs.declared.typed.UnaryOperator.{UnaryOperator}
use Rattle.cyc_types.specs.declared.typed.UnaryOperator.TheVariants as unary
use Rattle.cyc_types.specs.declared.typed.Operator.{Operator}
use Rattle.cyc_types.specs.declared.typed.Operator.TheVariants as operators
use Rattle.cyc_types.specs.declared.typed.LogicalOperator.{LogicalOperator}
use Rattle.cyc_types.specs.declared.typed.LogicalOperator.TheVariants as logical
use Rattle.cyc_types.specs.TypedTrees.{Expression, NullPointer, Operations, NoOperations, ThenCompute, ThenTest, ThenPointer, ThenPointerPeek, Program}
use Rattle.cyc_plain.specs.declared.instruction.Comparison.{Comparison}
use Rattle.cyc_plain.specs.declared.instruction.Comparison.TheVariants as comparisons
use Rattle.cyc_plain.specs.declared.instruction.Operand.{Operand}
use Rattle.cyc_plain.specs.declared.instruction.Operand.TheVariants as operands
use Rattle.cyc_plain.specs.declared.instruction.Instruction.{Instruction}
use Rattle.cyc_plain.specs.declared.instruction.Instruction.TheVariants as instructions
use Rattle.cyc_plain.specs.declared.instruction.BinaryOperator.TheVariants as plain_binary
use Rattle.cyc_plain.specs.declared.instruction.UnaryOperator.TheVariants as plain_unary
use Rattle.cyc_plain.specs.inside.Operators.{truth, compares}
use Rattle.cyc_plain.specs.inside.Operators as plain_operators
use Rattle.cyc_plain.specs.inside.State as plain
use Rattle.cyc_plain.specs.inside.State.{Words, put, Frame, Configuration}
use Rattle.cyc_plain.specs.inside.Step.{Choice, operand_word, with_slots, at, advanced, gives, performed}
use Rattle.cyc_plain.specs.inside.Step as plain_step
use Rattle.cyc_plain.proofs.SlotLaws.{put-same}
use Rattle.cyc_plain.specs.inside.Straight.{At}
use Rattle.cyc_meaning.specs.Values.{Value, Int, Operand as Kinded, is_kind, words_of_kind}
use Rattle.cyc_meaning.specs.Operators.{Gives, Raises, has_no_result, binary_word, unary_result, truth_result, truth_of, division_by_zero, unary_kind}
use Rattle.cyc_meaning.specs.Pointers.{takes_kind, result_kind as operator_kind}
use Rattle.cyc_meaning.specs.State.{World, Environment, Awaiting, Operate, Chain, Apply, ApplyPointer, Decide, Entry, Needs, Evaluating, Given, Running, Advance, status_of}
use Rattle.cyc_meaning.specs.Step.{computed, tested, awaits_right, step}
use Rattle.cyc_meaning.specs.SourceMachine.{status_in}
use Rattle.cyc_lower_proof.specs.inside.Slots.{Types, Starts}
use Rattle.cyc_lower_proof.proofs.slots.Widths.{same_kind, Outside, chain_kind, unary_one_word}
use Rattle.cyc_lower_proof.proofs.relation.contents.Moves.{put_elsewhere}
use Rattle.cyc_lower_proof.specs.inside.ValueCode.{binary_operator, failing_comparison, next_slot, jump_if_zero, jump_if_nonzero, unary_instruction}
use Rattle.cyc_lower_proof.specs.inside.ExpressionCode.{operand_of, value_slot, is_simple}
use Rattle.cyc_lower_proof.specs.inside.Lowering.{lower_program}
use Rattle.cyc_types.specs.declared.typed.PointerOperator.{PointerOperator}
use Rattle.cyc_lower_proof.specs.inside.ControlCode.{null_failing, null_compared, pointers_failing}
use Rattle.cyc_lower_proof.proofs.relation.code.Stands.{OperandBy, CheckAt, CheckedAt, OperatorAt, TruthAt, ExpressionAt, OperationsAt, LeftBy}
use Rattle.cyc_memory_relation.specs.inside.Tables.{Tables}
use Rattle.cyc_memory_relation.specs.inside.Words.{Is}
use Rattle.cyc_lower_proof.proofs.relation.contents.HeldValues.{IsIn, Holds, held, IsLow}
use Rattle.cyc_lower_proof.proofs.relation.simulation.Relation.{DataIn, SharedAt, ReadyAt, as_operand, into_slot, as_right, in_operand, with_left, Related, Matches, BesideAt, EvaluatingAt}
use Rattle.cyc_lower_proof.proofs.relation.simulation.Stacks.{types_on, starts_on, in_temporary, to_slot, to_jump, ValueStack, ConditionStack, LandsStack, AppliedStack, code_of, bounds_at, top, floor}
use Rattle.cyc_lower_proof.proofs.object_steps.Handles.{kept_holds}
use Rattle.cyc_lower_proof.proofs.relation.contents.Data.{height-least, Holds-same, Is-same}
use Rattle.cyc_lower_proof.proofs.relation.contents.HandlerData.{data_written}
use Rattle.cyc_lower_proof.proofs.relation.simulation.Accesses.{IsWell}
use Rattle.cyc_lower_proof.proofs.relation.simulation.Matched.{silently, by_one, by_two}
use Rattle.cyc_lower_proof.proofs.handler_steps.Handling.{raised}
use Rattle.cyc_lower_proof.proofs.pointer_steps.PointerSteps.{right_follows, one_word}
use Rattle.cyc_lower_proof.proofs.value_steps.Beginnings.{only_computed}
use Rattle.cyc_lower_proof.proofs.value_steps.Evaluations.{known_simple}
use Rattle.cyc_lower_proof.proofs.value_steps.Landings.{landed, landed_word, lands_at}
use Rattle.cyc_lower_proof.proofs.value_steps.Decided.{given_compared, tested_given}
use Rattle.cyc_lower_proof.proofs.value_steps.ValueWords.{of_kind, int_of, fails_by, other_place, zero_is, int_is, int_in}
use Rattle.cyc_plain.specs.declared.instruction.UnaryOperator.{UnaryOperator as PlainUnary}
use Rattle.cyc_types.specs.Numbered.{Numbering}
use Rattle.cyc_lower_proof.proofs.value_steps.Conversions.{not_taken, guard_fails, Stands, GoesAfter}

module _ (source : Program) (pages calls : ℕ) where
  -- ---- operators

  -- Says that a word has been moved to a slot, and that the slot now represents a value of representation kind `kind` (int, char, pointer,
  -- ..).
  abbrev IsLanded : Tables → Kind → (d : ℕ) → List Entry → Environment → World → Configuration → Type 0
  IsLanded t kind d k e w c =
      (v : Value) (x : ℕ) → Is t kind v (put c.active.slots d x) d → Related source pages calls (Given (of_kind kind v)) k e w (advanced (with_slots c (put c.active.slots d x)))

  operates_word : (u : UnaryOperator) (operator : PlainUnary) (i : Kind) (a : ℕ) (o : Operand) (d : ℕ) (k : List Entry) (e : Environment) (w : World) (c : Configuration)
      → unary_kind u ≡ kinds.Int → unary_result u (Int a) ≡ Gives (Int (plain_operators.unary_result operator a)) → (shared : SharedAt source pages calls k e w c) → IsIn shared.tables (of_kind i (Int a)) c.active.slots o
      → At (code_of source c.active.function) c.active.next (instructions.Unary operator d o) → IsLanded shared.tables kinds.Int d k e w c
      → GoesAfter source pages calls (of_kind i (Int a)) (Needs (Operate u) ∷ k) e w c
  operates_word u operator i a o d k e w c int result shared is here goes =
      let x = plain_operators.unary_result operator (operand_word c.active.slots o) in
      by_one source pages calls (ap (λ r. computed (unary_kind u) r k e w) result ∙ ap (λ j. Running (Given (of_kind j (Int (plain_operators.unary_result operator a)))) k e w) int) shared here
      (λ choice. goes (Int (plain_operators.unary_result operator a)) x (put-same c.active.slots d x ∙ ap (plain_operators.unary_result operator) (int_is shared.tables i a c.active.slots o is)))

  pub operates_value : (u : UnaryOperator) (i : Kind) (v : Value) (o : Operand) (d : ℕ) (k : List Entry) (e : Environment) (w : World) (c : Configuration)
      → IsWell (step source (Running (Given (of_kind i v)) (Needs (Operate u) ∷ k) e w)) → (shared : SharedAt source pages calls k e w c) → IsIn shared.tables (of_kind i v) c.active.slots o
      → At (code_of source c.active.function) c.active.next (unary_instruction u d o) → IsLanded shared.tables (unary_kind u) d k e w c → GoesAfter source pages calls (of_kind i v) (Needs (Operate u) ∷ k) e w c
  operates_value unary.Not i v o d k e w c well shared is here goes =
      let x = truth (operand_word c.active.slots o == 0) in
      by_one source pages calls
      (ap (λ z. computed kinds.Int (truth_result z) k e w) (zero_is shared.tables (of_kind i v) c.active.slots o (λ none. well (ap (λ z. status_in (status_of (computed kinds.Int (truth_result z) k e w))) none)) is)) shared here
      (λ choice. goes (Int x) x (put-same c.active.slots d x))
  operates_value unary.Negate i (Int a) o d k e w c well shared is here goes = operates_word unary.Negate plain_unary.Negate i a o d k e w c refl refl shared is here goes
  operates_value unary.Complement i (Int a) o d k e w c well shared is here goes = operates_word unary.Complement plain_unary.Complement i a o d k e w c refl refl shared is here goes
  operates_value unary.Widen i (Int a) o d k e w c well shared is here goes =
      let x = operand_word c.active.slots o in
      by_one source pages calls refl shared here (λ choice. goes (Int a) x (put-same c.active.slots d x ∙ int_is shared.tables i a c.active.slots o is))
  operates_value unary.LowByte i (Int a) o d k e w c well shared is here goes =
      let x = bit_and (operand_word c.active.slots o) 255 in
      let same : x ≡ a % 256 = bit_and_255 (operand_word c.active.slots o) ∙ ap (λ y. y % 256) (int_is shared.tables i a c.active.slots o is) in
      by_one source pages calls refl shared here (λ choice. goes (Int (a % 256)) x (put-same c.active.slots d x ∙ same, omega arith))
  operates_value u i v o d k e w c well shared is here goes = absurd (well refl)

  -- A value of one word is in the slot to which the code moves it.
  lands_word : (kind : Kind) (d : ℕ) (k : List Entry) (e : Environment) (w : World) (c : Configuration) → words_of_kind kind ≡ 1 → (shared : SharedAt source pages calls k e w c) → DataIn source shared.tables c.active.slots k e w c
      → Holds shared.tables c.active.slots (floor source c.active.function k) (held k) → LandsStack source c.active.function e.locals kind d (c.active.next + 1) c.frames k → IsLanded shared.tables kind d k e w c
  lands_word kind d k e w c one shared facts holds lands v x is =
      landed source pages calls (of_kind kind v) (put c.active.slots d x) d k e w c (c.active.next + 1) shared is
      (λ m out. put_elsewhere c.active.slots d x 1 m (omega arith) (subst (λ many. Outside d many m) one out)) facts holds refl lands

  -- A char that is used as an int needs no instruction: its value stays in the same slot or constant.
  widened : (i : Kind) (v : Value) (o : Operand) (k : List Entry) (e : Environment) (w : World) (c : Configuration) → IsWell (step source (Running (Given (of_kind i v)) (Needs (Operate unary.Widen) ∷ k) e w))
      → Stands source pages calls (of_kind i v) o k e w c → ValueStack source c.active.function e.locals kinds.Int o c.active.next c.frames k → GoesAfter source pages calls (of_kind i v) (Needs (Operate unary.Widen) ∷ k) e w c
  widened i (Int a) o k e w c well (shared, facts, is, holds) stack =
      silently source pages calls (Running (Given (of_kind i (Int a))) (Needs (Operate unary.Widen) ∷ k) e w) (Running (Given (int_of a)) k e w) (plain.Running c) refl
      (shared, in_operand o facts (int_in shared.tables i a c.active.slots o is) (kept_holds _ _ _ k holds) stack)
      (omega arith)
  widened i v o k e w c well stands stack = absurd (well refl)

  pub operates : (u : UnaryOperator) (v : Kinded) (o : Operand) (k : List Entry) (e : Environment) (w : World) (c : Configuration)
      → IsWell (step source (Running (Given v) (Needs (Operate u) ∷ k) e w)) → Stands source pages calls v o k e w c
      → ValueStack source c.active.function e.locals v.kind o c.active.next c.frames (Needs (Operate u) ∷ k) → GoesAfter source pages calls v (Needs (Operate u) ∷ k) e w c
  operates unary.Widen v o k e w c well stands stack = widened v.kind v.value o k e w c well stands stack
  operates u v o k e w c well (shared, facts, is, holds) (to_slot (d, here, lands)) =
      operates_value u v.kind v.value o d k e w c well shared is here (lands_word (unary_kind u) d k e w c (unary_one_word u) shared facts holds lands)
  operates unary.Not v o k e w c well (shared, facts, is, holds) (to_jump (same, stack)) =
      tested_given source pages calls v o (Needs (Operate unary.Not) ∷ k) e w c (λ none. well (ap (λ z. status_in (status_of (computed kinds.Int (truth_result z) k e w))) none)) shared facts is holds stack
  operates u v o k e w c well stands (to_jump (same, stack)) = absurd (let f : u ≡ unary.Not = same in cc)

  -- ---- divisions

  -- Says that the result of an operator is in its slot, and that execution continues after the code of the operator.
  abbrev IsComputed : Operator → (a b d q : ℕ) → List Entry → Environment → World → Configuration → Type 0
  IsComputed u a b d q k e w c =
      (m x : ℕ) → m + 1 ≡ q → x ≡ binary_word u a b → Related source pages calls (Given (int_of (binary_word u a b))) k e w (advanced (with_slots (at c m) (put c.active.slots d x)))

  -- The step of the division instruction, applied to operands that hold the words a and b.
  quotient : (u : Operator) (a b : ℕ) (l r : Operand) (d : ℕ) (k : List Entry) (e : Environment) (w : World) (c : Configuration) (q : ℕ)
      → ((x : ℕ) → plain_operators.has_no_result (binary_operator u) x ≡ (x == 0)) → ((x y : ℕ) → plain_operators.binary_result (binary_operator u) x y ≡ binary_word u x y)
      → (b == 0) ≡ false → operand_word c.active.slots l ≡ a → operand_word c.active.slots r ≡ b → c.active.next + 1 ≡ q → IsComputed u a b d q k e w c
      → (choice : Choice) → Matches source pages calls (Running (Given (int_of (binary_word u a b))) k e w) (performed (lower_program source) choice c (instructions.Binary (binary_operator u) d l r))
  quotient u a b l r d k e w c q plain_test same nonzero is_left is end goes choice =
      let x = operand_word c.active.slots l in
      let y = operand_word c.active.slots r in
      let result = plain_operators.binary_result (binary_operator u) x y in
      subst (λ (z : Bool). Matches source pages calls (Running (Given (int_of (binary_word u a b))) k e w) (if z then plain.Stuck c.output c.input else gives c d result)) (sym (plain_test y ∙ ap (λ z. z == 0) is ∙ nonzero))
      (goes c.active.next result end (same x y ∙ ap (λ z. binary_word u z y) is_left ∙ ap (binary_word u a) is))

  -- The step of a division after the test that its divisor is not 0.
  tested_divides : (u : Operator) (i j : Kind) (a b : ℕ) (f : Bool) (l r : Operand) (d : ℕ) (k : List Entry) (e : Environment) (w : World) (c : Configuration) (m q : ℕ)
      → ((x : ℕ) → plain_operators.has_no_result (binary_operator u) x ≡ (x == 0)) → ((x : ℕ) → has_no_result u x ≡ (x == 0))
      → ((x y : ℕ) → plain_operators.binary_result (binary_operator u) x y ≡ binary_word u x y) → (b == 0) ≡ f
      → (shared : SharedAt source pages calls k e w c) → DataIn source shared.tables c.active.slots k e w c
      → operand_word c.active.slots l ≡ a → operand_word c.active.slots r ≡ b
      → CheckAt (code_of source c.active.function) (bounds_at source c.active.function) (types_on source c.active.function k) division_by_zero r c.active.next m
      → At (code_of source c.active.function) m (instructions.Binary (binary_operator u) d l r) → m + 1 ≡ q
      → IsComputed u a b d q k e w c → GoesAfter source pages calls (of_kind j (Int b)) (Needs (Apply u (of_kind i (Int a))) ∷ k) e w c
  tested_divides u i j a b true l r d k e w c m q plain_test test same zero_b shared facts is_left is check here end goes =
      guard_fails source pages calls division_by_zero comparisons.Equal r (operands.Word 0) k e w c m
      (ap (λ x. computed kinds.Int (if x then Raises 4 else Gives (Int (binary_word u a b))) k e w) (test b ∙ zero_b)) shared shared
      (omega arith) facts check (ap (λ x. x == 0) is ∙ zero_b)
  tested_divides u i j a b false l r d k e w c m q plain_test test same zero_b shared facts is_left is (s, jump, raised, following) here end goes =
      let nonzero : (operand_word c.active.slots r == 0) ≡ false = ap (λ x. x == 0) is ∙ zero_b in
      by_two source pages calls (at c m)
      (ap (λ x. computed kinds.Int (if x then Raises 4 else Gives (Int (binary_word u a b))) k e w) (test b ∙ zero_b)) shared shared
      jump (λ choice. ap (λ x. plain_step.branches c x s) nonzero ∙ ap (λ n. plain.Running (at c n)) following)
      here (λ equal. omega (arith, equal, following))
      (quotient u a b l r d k e w (at c m) q plain_test same zero_b is_left is end goes)

  -- A divisor that is a constant other than 0 needs no test.
  divides : (u : Operator) (i j : Kind) (a b : ℕ) (l r : Operand) (d : ℕ) (k : List Entry) (e : Environment) (w : World) (c : Configuration) (q : ℕ)
      → ((x : ℕ) → plain_operators.has_no_result (binary_operator u) x ≡ (x == 0)) → ((x : ℕ) → has_no_result u x ≡ (x == 0))
      → ((x y : ℕ) → plain_operators.binary_result (binary_operator u) x y ≡ binary_word u x y)
      → (shared : SharedAt source pages calls k e w c) → DataIn source shared.tables c.active.slots k e w c
      → operand_word c.active.slots l ≡ a → operand_word c.active.slots r ≡ b
      → CheckedAt (code_of source c.active.function) (bounds_at source c.active.function) (types_on source c.active.function k) u d l r c.active.next q
      → IsComputed u a b d q k e w c → GoesAfter source pages calls (of_kind j (Int b)) (Needs (Apply u (of_kind i (Int a))) ∷ k) e w c
  divides u i j a b l (operands.Word (suc n)) d k e w c q plain_test test same shared facts is_left is (m, begin, here, end) goes =
      let nonzero : (b == 0) ≡ false = ap (λ x. x == 0) (sym is) ∙ false_from_ne_true (suc n == 0) (λ h. absurd (let z : suc n ≡ 0 = eqb-true (suc n) 0 h in omega (arith, z))) in
      by_one source pages calls (ap (λ x. computed kinds.Int (if x then Raises 4 else Gives (Int (binary_word u a b))) k e w) (test b ∙ nonzero)) shared
      (subst (λ x. At (code_of source c.active.function) x (instructions.Binary (binary_operator u) d l (operands.Word (suc n)))) (sym begin) here)
      (quotient u a b l (operands.Word (suc n)) d k e w c q plain_test same nonzero is_left is (ap (λ x. x + 1) begin ∙ end) goes)
  divides u i j a b l (operands.Word zero) d k e w c q plain_test test same shared facts is_left is (m, check, here, end) goes =
      tested_divides u i j a b (b == 0) l (operands.Word zero) d k e w c m q plain_test test same refl shared facts is_left is check here end goes
  divides u i j a b l (operands.Slot n) d k e w c q plain_test test same shared facts is_left is (m, check, here, end) goes =
      tested_divides u i j a b (b == 0) l (operands.Slot n) d k e w c m q plain_test test same refl shared facts is_left is check here end goes

  computes : (u : Operator) (i j : Kind) (a b : ℕ) (l r : Operand) (d : ℕ) (k : List Entry) (e : Environment) (w : World) (c : Configuration) (q : ℕ)
      → (shared : SharedAt source pages calls k e w c) → DataIn source shared.tables c.active.slots k e w c
      → operand_word c.active.slots l ≡ a → operand_word c.active.slots r ≡ b
      → OperatorAt (code_of source c.active.function) (bounds_at source c.active.function) (types_on source c.active.function k) u d l r c.active.next q
      → IsComputed u a b d q k e w c → GoesAfter source pages calls (of_kind j (Int b)) (Needs (Apply u (of_kind i (Int a))) ∷ k) e w c
  computes operators.Divide i j a b l r d k e w c q shared facts is_left is here goes =
      divides operators.Divide i j a b l r d k e w c q (λ x. refl) (λ x. refl) (λ x y. refl) shared facts is_left is here goes
  computes operators.Remainder i j a b l r d k e w c q shared facts is_left is here goes =
      divides operators.Remainder i j a b l r d k e w c q (λ x. refl) (λ x. refl) (λ x y. refl) shared facts is_left is here goes
  computes u i j a b l r d k e w c q shared facts is_left is (here, end) goes =
      let x = operand_word c.active.slots l in
      let y = operand_word c.active.slots r in
      by_one source pages calls refl shared here (λ choice. goes c.active.next (binary_word u x y) end (ap (λ z. binary_word u z y) is_left ∙ ap (binary_word u a) is))

  -- A value in slots up to the next temporary is unchanged by writes to later slots.
  low_same : (t : Tables) (v : Kinded) (o : Operand) (free : ℕ) (slots other : Words) → IsLow o free → ((m : ℕ) → m < free + words_of_kind v.kind → other m ≡ slots m) → IsIn t v slots o → IsIn t v other o
  low_same t v (operands.Slot n) free slots other low same is = Is-same t v.kind v.value slots other n n (λ i below. same (n + i) (omega (arith, below, low))) is
  low_same t v (operands.Word n) free slots other low same is = is

  beside_same : (t : Tables) (locals : ℕ → Option ℕ) (g : ℕ) (o : Operand) (p : ℕ) (slots other : Words) (frames : List Frame) (k : List Entry) → ((m : ℕ) → m < top source g k → other m ≡ slots m)
      → BesideAt source t locals g o p slots frames k → BesideAt source t locals g o p other frames k
  beside_same t locals g o p slots other frames (Needs (Apply u left) ∷ k) same (l, is, low, inl (holds, applied)) =
      (l, low_same t left l (top source g k) slots other low same is, low, inl (Holds-same t slots other (floor source g k) (held k) (λ m below. same m (omega (arith, below))) holds, applied))
  beside_same t locals g o p slots other frames (Needs (Apply u left) ∷ k) same (l, is, low, inr (q, at, beside)) =
      (l, low_same t left l (top source g k) slots other low same is, low, inr (q, at, beside_same t locals g (operands.Slot (top source g k)) q slots other frames k (λ m below. same m (omega (arith, below))) beside))
  beside_same t locals g o p slots other frames (Needs (ApplyPointer peek u left) ∷ k) same (l, failing, is, low, holds, either) =
      (l, failing, low_same t left l (top source g k) slots other low same is, low, Holds-same t slots other (floor source g k) (held k) (λ m below. same m (omega (arith, below))) holds, either)
  beside_same t locals g o p slots other frames (Needs (Advance peek target base) ∷ k) same (n, q, is, low, holds, advances) = (
    n,
    q,
    low_same t base (operands.Slot n) (top source g k) slots other low same is,
    low,
    Holds-same t slots other (floor source g k) (held k) (λ m below. same m (omega (arith, below))) holds,
    advances,
  )
  beside_same t locals g o p slots other frames (Needs (Chain os) ∷ k) same (q, low, simple, at, beside) =
      (q, low, simple, at, beside_same t locals g (operands.Slot (top source g k)) q slots other frames k same beside)
  beside_same t locals g o p slots other frames (Needs (Operate unary.Widen) ∷ k) same beside = beside_same t locals g o p slots other frames k same beside
  beside_same t locals g o p slots other frames (Needs (Operate u) ∷ k) same (at, beside) = (at, beside_same t locals g (operands.Slot (top source g k)) (p + 1) slots other frames k same beside)
  beside_same t locals g o p slots other frames k same beside = absurd beside

  -- The result of an operator becomes the left operand of the next operator, or the value of a chain of operators. The left
  -- operand of the enclosing chain of operators stays in its slot or constant.
  pub stays_beside : (v : Kinded) (x : ℕ) (k : List Entry) (e : Environment) (w : World) (c : Configuration) (q p : ℕ) (shared : SharedAt source pages calls k e w c) → DataIn source shared.tables c.active.slots k e w c → p ≡ q
      → Is shared.tables v.kind v.value (put c.active.slots (top source c.active.function k) x) (top source c.active.function k)
      → BesideAt source shared.tables e.locals c.active.function (operands.Slot (top source c.active.function k)) q c.active.slots c.frames k
      → Related source pages calls (Given v) k e w (at (with_slots c (put c.active.slots (top source c.active.function k) x)) p)
  stays_beside v x k e w c q p shared facts end is beside =
      let g = c.active.function in
      let free = top source g k in
      let slots = put c.active.slots free x in
      let elsewhere : (n : ℕ) → Outside free 1 n → slots n ≡ c.active.slots n = λ n out. put_elsewhere c.active.slots free x 1 n (omega arith) out in (
        shared,
        with_left (data_written source shared.tables g c.active.base w.objects e.locals k c.active.slots slots c.active.handlers c.globals c.frames free 1 (height-least (floor source g k) (held k)) elsewhere facts) (
          operands.Slot free,
          is,
          subst (λ n. BesideAt source shared.tables e.locals g (operands.Slot free) n slots c.frames k) (sym end)
              (beside_same shared.tables e.locals g (operands.Slot free) q c.active.slots slots c.frames k (λ n below. elsewhere n (inl (omega (arith, below)))) beside),
        ),
      )

  -- If a condition is a comparison, then the code does not compute its value.
  compares_words : (u : Operator) (i j : Kind) (failing : Comparison) (a b : ℕ) (l r : Operand) (k : List Entry) (e : Environment) (w : World) (c : Configuration) → failing_comparison u ≡ Some failing
      → step source (Running (Given (of_kind j (Int b))) (Needs (Apply u (of_kind i (Int a))) ∷ k) e w) ≡ Running (Given (int_of (binary_word u a b))) k e w
      → (shared : SharedAt source pages calls k e w c) → DataIn source shared.tables c.active.slots k e w c → Holds shared.tables c.active.slots (floor source c.active.function k) (held k) → operand_word c.active.slots l ≡ a → operand_word c.active.slots r ≡ b
      → ConditionStack source c.active.function failing l r c.active.next c.frames k → GoesAfter source pages calls (of_kind j (Int b)) (Needs (Apply u (of_kind i (Int a))) ∷ k) e w c
  compares_words u i j failing a b l r k e w c is does shared facts holds is_left is_right stack =
      let x = operand_word c.active.slots l in
      let fails = fails_by u failing a b is ∙ ap (λ y. compares failing y b) (sym is_left) ∙ ap (compares failing x) (sym is_right) in
      silently source pages calls (Running (Given (of_kind j (Int b))) (Needs (Apply u (of_kind i (Int a))) ∷ k) e w) (Running (Given (int_of (binary_word u a b))) k e w) (plain.Running c) does
      (shared, given_compared source pages calls shared.tables (int_of (binary_word u a b)) failing l r k e w c _ (ap Some fails) refl facts holds stack)
      (omega arith)

  compares_both : (u : Operator) (i j : Kind) (failing : Comparison) (a b : ℕ) (l r : Operand) (k : List Entry) (e : Environment) (w : World) (c : Configuration) → failing_comparison u ≡ Some failing
      → (shared : SharedAt source pages calls k e w c) → DataIn source shared.tables c.active.slots k e w c → Holds shared.tables c.active.slots (floor source c.active.function k) (held k) → operand_word c.active.slots l ≡ a → operand_word c.active.slots r ≡ b
      → ConditionStack source c.active.function failing l r c.active.next c.frames k → GoesAfter source pages calls (of_kind j (Int b)) (Needs (Apply u (of_kind i (Int a))) ∷ k) e w c
  compares_both operators.Divide i j failing a b l r k e w c is shared facts holds is_left is_right stack = absurd (none-some failing is)
  compares_both operators.Remainder i j failing a b l r k e w c is shared facts holds is_left is_right stack = absurd (none-some failing is)
  compares_both u i j failing a b l r k e w c is shared facts holds is_left is_right stack =
      compares_words u i j failing a b l r k e w c is refl shared facts holds is_left is_right stack

  -- Both operands of a binary operator are available, and the operator is applied.
  applies_values : (u : Operator) (i j : Kind) (left v : Value) (k : List Entry) (e : Environment) (w : World) (c : Configuration)
      → IsWell (step source (Running (Given (of_kind j v)) (Needs (Apply u (of_kind i left)) ∷ k) e w)) → (shared : SharedAt source pages calls k e w c) → DataIn source shared.tables c.active.slots k e w c
      → ReadyAt source shared.tables (of_kind j v) e.locals c.active.function c.active.next c.active.slots c.frames (Needs (Apply u (of_kind i left)) ∷ k)
      → GoesAfter source pages calls (of_kind j v) (Needs (Apply u (of_kind i left)) ∷ k) e w c
  applies_values u i j (Int a) (Int b) k e w c well shared facts (r, is, (l, is_left, low, inl (holds, to_slot (d, q, here, lands)))) =
      computes u i j a b l r d k e w c q shared facts (int_is shared.tables i a c.active.slots l is_left) (int_is shared.tables j b c.active.slots r is) here
      (λ m x end x_is. landed_word source pages calls (binary_word u a b) x d k e w (at c m) q x_is shared facts holds end lands)
  applies_values u i j (Int a) (Int b) k e w c well shared facts (r, is, (l, is_left, low, inl (holds, to_jump (failing, fails, stack)))) =
      compares_both u i j failing a b l r k e w c fails shared facts holds (int_is shared.tables i a c.active.slots l is_left) (int_is shared.tables j b c.active.slots r is) stack
  applies_values u i j (Int a) (Int b) k e w c well shared facts (r, is, (l, is_left, low, inr (q, here, beside))) =
      let free = top source c.active.function k in
      computes u i j a b l r free k e w c q shared facts (int_is shared.tables i a c.active.slots l is_left) (int_is shared.tables j b c.active.slots r is) here
      (λ m x end x_is. stays_beside (int_of (binary_word u a b)) x k e w (at c m) q (m + 1) shared facts end (put-same c.active.slots free x ∙ x_is) beside)
  applies_values u i j left v k e w c well shared facts ready = absurd (well refl)

  pub applies : (u : Operator) (left v : Kinded) (k : List Entry) (e : Environment) (w : World) (c : Configuration)
      → IsWell (step source (Running (Given v) (Needs (Apply u left) ∷ k) e w)) → (shared : SharedAt source pages calls k e w c) → DataIn source shared.tables c.active.slots k e w c
      → ReadyAt source shared.tables v e.locals c.active.function c.active.next c.active.slots c.frames (Needs (Apply u left) ∷ k) → GoesAfter source pages calls v (Needs (Apply u left) ∷ k) e w c
  applies u left v k e w c well shared facts ready = applies_values u left.kind v.kind left.value v.value k e w c well shared facts ready

  -- ---- truth values

  pub decides_truth : (v : Kinded) (o : Operand) (k : List Entry) (e : Environment) (w : World) (c : Configuration) → IsWell (step source (Running (Given v) (Needs Decide ∷ k) e w)) → Stands source pages calls v o k e w c
      → ValueStack source c.active.function e.locals v.kind o c.active.next c.frames (Needs Decide ∷ k) → GoesAfter source pages calls v (Needs Decide ∷ k) e w c
  decides_truth v o k e w c well (shared, facts, is, holds) (to_jump stack) =
      tested_given source pages calls v o (Needs Decide ∷ k) e w c (λ none. well (ap (λ z. status_in (status_of (computed kinds.Int (truth_of z) k e w))) none)) shared facts is holds stack
  decides_truth v o k e w c well (shared, facts, is, holds) (to_slot (d, q, there, (test, end), lands)) =
      let x = c.active.slots (top source c.active.function k) in
      let is_x : IsIn shared.tables v c.active.slots (operands.Slot (top source c.active.function k)) = subst (IsIn shared.tables v c.active.slots) there is in
      by_one source pages calls
      (ap (λ z. computed kinds.Int (truth_of z) k e w) (zero_is shared.tables v c.active.slots (operands.Slot (top source c.active.function k)) (λ none. well (ap (λ z. status_in (status_of (computed kinds.Int (truth_of z) k e w))) none)) is_x)) shared test
      (λ choice. landed_word source pages calls (truth (not (x == 0))) (truth (not (x == 0))) d k e w c q refl shared facts holds end lands)

  -- ---- chains

  -- In an operator chain, the value computed by the first operators becomes the left operand of the next operator of the chain.
  chain_lands : (os : Operations) (kind : Kind) (g : ℕ) (locals : ℕ → Option ℕ) (d p q : ℕ) (frames : List Frame) (k : List Entry)
      → OperationsAt (code_of source g) (bounds_at source g) (types_on source g k) os (operands.Slot (next_slot os d (top source g k))) d (top source g k) p q
      → LandsStack source g locals (chain_kind kind os) d q frames k → LandsStack source g locals kind (next_slot os d (top source g k)) p frames (Needs (Chain os) ∷ k)
  chain_lands NoOperations kind g locals d p q frames k (is, end) lands = lands_at source pages calls g locals kind d p q frames k end lands
  chain_lands (ThenCompute u b os) kind g locals d p q frames k ops lands = in_temporary (omega arith) (omega arith, to_slot (d, q, ops, lands))
  chain_lands (ThenTest u b os) kind g locals d p q frames k ops lands = in_temporary (omega arith) (omega arith, to_slot (d, q, ops, lands))
  chain_lands (ThenPointer u b os) kind g locals d p q frames k ops lands = in_temporary (omega arith) (omega arith, to_slot (d, q, ops, lands))
  chain_lands (ThenPointerPeek n u b os) kind g locals d p q frames k ops lands = in_temporary (omega arith) (omega arith, to_slot (d, q, ops, lands))

  -- If the left operand of `&&` or `||` decides the result, then the code jumps over the right operand.
  decided_at_once : (u : LogicalOperator) (b : Expression) (os : Operations) (v : Kinded) (f : Bool) (k : List Entry) (e : Environment) (w : World) (c : Configuration) (i : Instruction) (d m r : ℕ)
      → step source (Running (Given v) (Needs (Chain (ThenTest u b os)) ∷ k) e w) ≡ Running (Given (int_of (if f then 0 else 1))) (Needs (Chain os) ∷ k) e w
      → At (code_of source c.active.function) c.active.next i → ((choice : Choice) → plain_step.performed (lower_program source) choice c i ≡ plain.Running (at c m))
      → i ≢ instructions.Binary plain_binary.NotEqual d (operands.Slot (top source c.active.function k)) (operands.Word 0)
      → (c.active.slots (top source c.active.function k) == 0) ≡ f
      → (shared : SharedAt source pages calls k e w c) → DataIn source shared.tables c.active.slots k e w c
      → Holds shared.tables c.active.slots (floor source c.active.function k) (held k)
      → TruthAt (code_of source c.active.function) (bounds_at source c.active.function) (types_on source c.active.function k) (top source c.active.function k) d m r
      → LandsStack source c.active.function e.locals kinds.Int d r c.frames (Needs (Chain os) ∷ k)
      → GoesAfter source pages calls v (Needs (Chain (ThenTest u b os)) ∷ k) e w c
  decided_at_once u b os v f k e w c i d m r does here jumps other reported shared facts holds (test, end) lands =
      let code = code_of source c.active.function in
      let free = top source c.active.function k in
      let there = at c m in
      by_two source pages calls there does shared shared here jumps test
      (other_place code c.active.next m i (instructions.Binary plain_binary.NotEqual d (operands.Slot free) (operands.Word 0)) here test other)
      (λ choice. landed_word source pages calls (if f then 0 else 1) (truth (not (c.active.slots free == 0))) d (Needs (Chain os) ∷ k) e w there r (sym (opposite f reported)) shared facts holds end lands)
    where
      opposite : (b : Bool) → (c.active.slots (top source c.active.function k) == 0) ≡ b → (if b then 0 else 1) ≡ truth (not (c.active.slots (top source c.active.function k) == 0))
      opposite true same = ap (λ x. truth (not x)) (sym same)
      opposite false same = ap (λ x. truth (not x)) (sym same)

  -- The step of a test by `&&` or `||` after its left operand has been evaluated, for both outcomes of the left operand.
  tests : (u : LogicalOperator) (b : Expression) (os : Operations) (v : Kinded) (f : Bool) (k : List Entry) (e : Environment) (w : World) (c : Configuration) (d q : ℕ)
      → IsWell (step source (Running (Given v) (Needs (Chain (ThenTest u b os)) ∷ k) e w))
      → (c.active.slots (top source c.active.function k) == 0) ≡ f → Stands source pages calls v (operands.Slot (top source c.active.function k)) k e w c
      → OperationsAt (code_of source c.active.function) (bounds_at source c.active.function) (types_on source c.active.function k) (ThenTest u b os) (operands.Slot (top source c.active.function k)) d (top source c.active.function k) c.active.next q
      → LandsStack source c.active.function e.locals (chain_kind kinds.Int os) d q c.frames k → GoesAfter source pages calls v (Needs (Chain (ThenTest u b os)) ∷ k) e w c
  tests logical.AndThen b os v true k e w c d q well reported (shared, facts, is, holds) (m, r, there, jump, at_b, truths, ops) lands =
      let does = ap (λ (x : Option Bool). tested x logical.AndThen b os k e w) (zero_is shared.tables v c.active.slots (operands.Slot (top source c.active.function k)) (λ none. well (ap (λ x. status_in (status_of (tested x logical.AndThen b os k e w))) none)) is ∙ ap Some reported) in
      decided_at_once logical.AndThen b os v true k e w c _ (next_slot os d (top source c.active.function k)) m r does jump (λ choice. ap (λ x. plain_step.branches c x m) reported)
      (λ same. let f : jump_if_zero _ m ≡ instructions.Binary plain_binary.NotEqual _ _ _ = same in cc) reported shared facts holds truths
      (chain_lands os kinds.Int c.active.function e.locals d r q c.frames k ops lands)
  tests logical.AndThen b os v false k e w c d q well reported (shared, facts, is, holds) (m, r, there, jump, at_b, truths, ops) lands =
      let free = top source c.active.function k in
      let does = ap (λ (x : Option Bool). tested x logical.AndThen b os k e w) (zero_is shared.tables v c.active.slots (operands.Slot (top source c.active.function k)) (λ none. well (ap (λ x. status_in (status_of (tested x logical.AndThen b os k e w))) none)) is ∙ ap Some reported) in
      by_one source pages calls does shared jump
      (λ choice. not_taken source pages calls (Running (Evaluating b) (Needs Decide ∷ Needs (Chain os) ∷ k) e w) c _ m reported
      (shared, facts, into_slot free m at_b holds (in_temporary (omega arith) (to_slot (next_slot os d free, r, refl, truths, chain_lands os kinds.Int c.active.function e.locals d r q c.frames k ops lands)))))
  tests logical.OrElse b os v true k e w c d q well reported (shared, facts, is, holds) (m, r, there, jump, at_b, truths, ops) lands =
      let free = top source c.active.function k in
      let does = ap (λ (x : Option Bool). tested x logical.OrElse b os k e w) (zero_is shared.tables v c.active.slots (operands.Slot (top source c.active.function k)) (λ none. well (ap (λ x. status_in (status_of (tested x logical.OrElse b os k e w))) none)) is ∙ ap Some reported) in
      by_one source pages calls does shared jump
      (λ choice. not_taken source pages calls (Running (Evaluating b) (Needs Decide ∷ Needs (Chain os) ∷ k) e w) c _ m (ap not reported)
      (shared, facts, into_slot free m at_b holds (in_temporary (omega arith) (to_slot (next_slot os d free, r, refl, truths, chain_lands os kinds.Int c.active.function e.locals d r q c.frames k ops lands)))))
  tests logical.OrElse b os v false k e w c d q well reported (shared, facts, is, holds) (m, r, there, jump, at_b, truths, ops) lands =
      let does = ap (λ (x : Option Bool). tested x logical.OrElse b os k e w) (zero_is shared.tables v c.active.slots (operands.Slot (top source c.active.function k)) (λ none. well (ap (λ x. status_in (status_of (tested x logical.OrElse b os k e w))) none)) is ∙ ap Some reported) in
      decided_at_once logical.OrElse b os v false k e w c _ (next_slot os d (top source c.active.function k)) m r does jump (λ choice. ap (λ x. plain_step.branches c (not x) m) reported)
      (λ same. let f : jump_if_nonzero _ m ≡ instructions.Binary plain_binary.NotEqual _ _ _ = same in cc) reported shared facts holds truths
      (chain_lands os kinds.Int c.active.function e.locals d r q c.frames k ops lands)

  -- If the step that evaluates the right operand of an operator next is not a fault, then the left operand fits the operator.
  pub awaited : (fits : Bool) (waiting : Awaiting) (b : Expression) (os : Operations) (k : List Entry) (e : Environment) (w : World) → IsWell (awaits_right fits waiting b os k e w)
      → awaits_right fits waiting b os k e w ≡ Running (Evaluating b) (Needs waiting ∷ Needs (Chain os) ∷ k) e w
  awaited true waiting b os k e w well = refl
  awaited false waiting b os k e w well = absurd (well refl)

  awaited_fits : (fits : Bool) (waiting : Awaiting) (b : Expression) (os : Operations) (k : List Entry) (e : Environment) (w : World) → IsWell (awaits_right fits waiting b os k e w) → fits ≡ true
  awaited_fits true waiting b os k e w well = refl
  awaited_fits false waiting b os k e w well = absurd (well refl)

  -- An expression whose evaluation may have an effect needs at least one instruction.
  unknown : (starts : Starts) (b : Expression) → is_simple starts b ≡ false → operand_of starts b ≡ None
  unknown starts b other = by (operand_of starts b) refl
    where
      by : (known : Option Operand) → operand_of starts b ≡ known → operand_of starts b ≡ None
      by None none = none
      by (Some x) some = absurd (let f : true ≡ false = sym (known_simple source pages calls starts b (ap is_some some)) ∙ other in cc)

  -- The left operand is in its slot if the code of the right operand requires it.
  left_there : (code : List Instruction) (b : Numbering) (types : Types) (known : Option Operand) (left computed : Type 0) (slot : ℕ) (o : Operand) (p q : ℕ) → known ≡ None → OperandBy code b types known (left × computed) slot o p q → left
  left_there code b types (Some x) left computed slot o p q none at = absurd (none-some x (sym none))
  left_there code b types None left computed slot o p q none (is, (there, at)) = there

  -- The left operand of an operator stays in its slot or constant if the right operand has no effects, and the right operand is evaluated
  -- after it.
  chain_goes_on : (simple : Bool) (u : Operator) (b : Expression) (os : Operations) (v : Kinded) (l : Operand) (k : List Entry) (e : Environment) (w : World) (c : Configuration) (r : Operand) (m : ℕ)
      → IsWell (step source (Running (Given v) (Needs (Chain (ThenCompute u b os)) ∷ k) e w)) → is_simple (starts_on source c.active.function k) b ≡ simple → IsLow l (top source c.active.function k) → Stands source pages calls v l k e w c
      → OperandBy (code_of source c.active.function) (bounds_at source c.active.function) (types_on source c.active.function k) (operand_of (starts_on source c.active.function k) b)
      (LeftBy (code_of source c.active.function) (bounds_at source c.active.function) (types_on source c.active.function k) simple (l ≡ operands.Slot (top source c.active.function k))
      × ExpressionAt (code_of source c.active.function) (bounds_at source c.active.function) (types_on source c.active.function k) b (value_slot (starts_on source c.active.function k) b (suc (top source c.active.function k))) (suc (top source c.active.function k)) c.active.next m)
      (value_slot (starts_on source c.active.function k) b (suc (top source c.active.function k))) r c.active.next m
      → AppliedStack source c.active.function e.locals u l r m c.frames (Needs (Chain os) ∷ k)
      → GoesAfter source pages calls v (Needs (Chain (ThenCompute u b os)) ∷ k) e w c
  chain_goes_on simple u b os v l k e w c r m well is_it low (shared, facts, is, holds) at applied =
      silently source pages calls (Running (Given v) (Needs (Chain (ThenCompute u b os)) ∷ k) e w) (Running (Evaluating b) (Needs (Apply u v) ∷ Needs (Chain os) ∷ k) e w) (plain.Running c) (awaited (is_kind v.kind kinds.Int) (Apply u v) b os k e w well)
      (shared, facts, by simple is_it at)
      (omega arith)
    where
      g : ℕ
      g = c.active.function

      t : ℕ
      t = top source g k

      starts : Starts
      starts = starts_on source g k

      next : suc t ≡ top source g (Needs (Apply u v) ∷ Needs (Chain os) ∷ k)
      next = let int = same_kind v.kind kinds.Int (awaited_fits (is_kind v.kind kinds.Int) (Apply u v) b os k e w well) in omega (arith, ap words_of_kind int)

      Right : (n : ℕ) → Type 0
      Right n = OperandBy (code_of source g) (bounds_at source g) (types_on source g k) (operand_of starts b) (ExpressionAt (code_of source g) (bounds_at source g) (types_on source g k) b (value_slot starts b n) n c.active.next m) (value_slot starts b n) r c.active.next m

      by : (simple : Bool) → is_simple starts b ≡ simple
          → OperandBy (code_of source g) (bounds_at source g) (types_on source g k) (operand_of starts b)
          (LeftBy (code_of source g) (bounds_at source g) (types_on source g k) simple (l ≡ operands.Slot t) × ExpressionAt (code_of source g) (bounds_at source g) (types_on source g k) b (value_slot starts b (suc t)) (suc t) c.active.next m) (value_slot starts b (suc t)) r c.active.next m
          → EvaluatingAt source shared.tables b e.locals g c.active.next c.active.slots c.frames (Needs (Apply u v) ∷ Needs (Chain os) ∷ k)
      by true is_simple_right at =
          as_right (r, m, is_simple_right, subst Right next (only_computed source pages calls (code_of source g) (bounds_at source g) (types_on source g k) (operand_of starts b) _ _ _ r c.active.next m at), (l, is, low, inl (holds, applied)))
      by false other at =
          let there = left_there (code_of source g) (bounds_at source g) (types_on source g k) (operand_of starts b) _ _ _ r c.active.next m (unknown starts b other) at in
          as_operand r m (subst Right next (only_computed source pages calls (code_of source g) (bounds_at source g) (types_on source g k) (operand_of starts b) _ _ _ r c.active.next m at))
          (subst (IsIn shared.tables v c.active.slots) there is, holds)
          (subst (λ x. AppliedStack source g e.locals u x r m c.frames (Needs (Chain os) ∷ k)) there applied)

  -- The constant null, which needs no instruction, is compared with a pointer that stays in the same slot.
  null_beside : (peek : Option ℕ) (u : PointerOperator) (v : Kinded) (o r : Operand) (failing : Comparison) (q : ℕ) (k : List Entry) (e : Environment) (w : World) (c : Configuration) → null_failing u ≡ Some failing → r ≡ operands.Word 0 → c.active.next ≡ q
      → (t : Tables) → IsIn t v c.active.slots o → IsLow o (top source c.active.function k) → Holds t c.active.slots (floor source c.active.function k) (held k) → ConditionStack source c.active.function failing o r q c.frames k
      → EvaluatingAt source t NullPointer e.locals c.active.function c.active.next c.active.slots c.frames (Needs (ApplyPointer peek u v) ∷ Needs (Chain NoOperations) ∷ k)
  null_beside peek u v o r failing q k e w c fails same end t is low holds stack =
      let g = c.active.function in
      as_right (
        operands.Word 0,
        c.active.next,
        refl,
        (refl, refl),
        (o, failing, is, low, holds, inl (fails, subst (λ (x : Operand). ConditionStack source g failing o x c.active.next c.frames k) same (subst (λ (p : ℕ). ConditionStack source g failing o r p c.frames k) (sym end) stack))),
      )

  null_goes_on : (u : PointerOperator) (b : Expression) (v : Kinded) (o r : Operand) (failing : Comparison) (q : ℕ) (k : List Entry) (e : Environment) (w : World) (c : Configuration) → IsWell (step source (Running (Given v) (Needs (Chain (ThenPointer u b NoOperations)) ∷ k) e w))
      → Stands source pages calls v o k e w c → IsLow o (top source c.active.function k) → null_compared u b ≡ Some failing → r ≡ operands.Word 0 → c.active.next ≡ q → ConditionStack source c.active.function failing o r q c.frames k
      → GoesAfter source pages calls v (Needs (Chain (ThenPointer u b NoOperations)) ∷ k) e w c
  null_goes_on u NullPointer v o r failing q k e w c well (shared, facts, is, holds) low fails same end stack =
      silently source pages calls (Running (Given v) (Needs (Chain (ThenPointer u NullPointer NoOperations)) ∷ k) e w) (Running (Evaluating NullPointer) (Needs (ApplyPointer None u v) ∷ Needs (Chain NoOperations) ∷ k) e w) (plain.Running c)
      (awaited (takes_kind u v.kind) (ApplyPointer None u v) NullPointer NoOperations k e w well)
      (shared, facts, null_beside None u v o r failing q k e w c fails same end shared.tables is low holds stack)
      (omega arith)
  null_goes_on u b v o r failing q k e w c well stands low fails same end stack = absurd (none-some failing fails)

  peek_goes_on : (n : ℕ) (u : PointerOperator) (b : Expression) (v : Kinded) (o r : Operand) (failing : Comparison) (q : ℕ) (k : List Entry) (e : Environment) (w : World) (c : Configuration) → IsWell (step source (Running (Given v) (Needs (Chain (ThenPointerPeek n u b NoOperations)) ∷ k) e w))
      → Stands source pages calls v o k e w c → IsLow o (top source c.active.function k) → null_compared u b ≡ Some failing → r ≡ operands.Word 0 → c.active.next ≡ q → ConditionStack source c.active.function failing o r q c.frames k
      → GoesAfter source pages calls v (Needs (Chain (ThenPointerPeek n u b NoOperations)) ∷ k) e w c
  peek_goes_on n u NullPointer v o r failing q k e w c well (shared, facts, is, holds) low fails same end stack =
      silently source pages calls (Running (Given v) (Needs (Chain (ThenPointerPeek n u NullPointer NoOperations)) ∷ k) e w) (Running (Evaluating NullPointer) (Needs (ApplyPointer (Some n) u v) ∷ Needs (Chain NoOperations) ∷ k) e w) (plain.Running c)
      (awaited (takes_kind u v.kind) (ApplyPointer (Some n) u v) NullPointer NoOperations k e w well)
      (shared, facts, null_beside (Some n) u v o r failing q k e w c fails same end shared.tables is low holds stack)
      (omega arith)
  peek_goes_on n u b v o r failing q k e w c well stands low fails same end stack = absurd (none-some failing fails)

  -- When two pointers are compared, the left pointer stays in its slot if the evaluation of the right one has no effects.
  pointer_beside : (simple : Bool) (peek : Option ℕ) (u : PointerOperator) (b : Expression) (v : Kinded) (l r : Operand) (failing : Comparison) (m : ℕ) (k : List Entry) (e : Environment) (w : World) (c : Configuration)
      → pointers_failing u ≡ Some failing → takes_kind u v.kind ≡ true → is_simple (starts_on source c.active.function k) b ≡ simple → IsLow l (top source c.active.function k)
      → (t : Tables) → IsIn t v c.active.slots l → Holds t c.active.slots (floor source c.active.function k) (held k)
      → OperandBy (code_of source c.active.function) (bounds_at source c.active.function) (types_on source c.active.function k) (operand_of (starts_on source c.active.function k) b)
      (LeftBy (code_of source c.active.function) (bounds_at source c.active.function) (types_on source c.active.function k) simple (l ≡ operands.Slot (top source c.active.function k))
      × ExpressionAt (code_of source c.active.function) (bounds_at source c.active.function) (types_on source c.active.function k) b (value_slot (starts_on source c.active.function k) b (suc (top source c.active.function k))) (suc (top source c.active.function k)) c.active.next m)
      (value_slot (starts_on source c.active.function k) b (suc (top source c.active.function k))) r c.active.next m
      → ConditionStack source c.active.function failing l r m c.frames k
      → EvaluatingAt source t b e.locals c.active.function c.active.next c.active.slots c.frames (Needs (ApplyPointer peek u v) ∷ Needs (Chain NoOperations) ∷ k)
  pointer_beside simple peek u b v l r failing m k e w c fails takes is_it low tables is holds at stack = by simple is_it at
    where
      g : ℕ
      g = c.active.function

      t : ℕ
      t = top source g k

      starts : Starts
      starts = starts_on source g k

      next : suc t ≡ top source g (Needs (ApplyPointer peek u v) ∷ Needs (Chain NoOperations) ∷ k)
      next = omega (arith, one_word u failing v.kind fails takes)

      Right : (n : ℕ) → Type 0
      Right n = OperandBy (code_of source g) (bounds_at source g) (types_on source g k) (operand_of starts b) (ExpressionAt (code_of source g) (bounds_at source g) (types_on source g k) b (value_slot starts b n) n c.active.next m) (value_slot starts b n) r c.active.next m

      by : (simple : Bool) → is_simple starts b ≡ simple
          → OperandBy (code_of source g) (bounds_at source g) (types_on source g k) (operand_of starts b)
          (LeftBy (code_of source g) (bounds_at source g) (types_on source g k) simple (l ≡ operands.Slot t) × ExpressionAt (code_of source g) (bounds_at source g) (types_on source g k) b (value_slot starts b (suc t)) (suc t) c.active.next m) (value_slot starts b (suc t)) r c.active.next m
          → EvaluatingAt source tables b e.locals g c.active.next c.active.slots c.frames (Needs (ApplyPointer peek u v) ∷ Needs (Chain NoOperations) ∷ k)
      by true is_simple_right at =
          as_right (
            r,
            m,
            is_simple_right,
            subst Right next (only_computed source pages calls (code_of source g) (bounds_at source g) (types_on source g k) (operand_of starts b) _ _ _ r c.active.next m at),
            (l, failing, is, low, holds, inr (fails, stack)),
          )
      by false other at =
          let there = left_there (code_of source g) (bounds_at source g) (types_on source g k) (operand_of starts b) _ _ _ r c.active.next m (unknown starts b other) at in
          as_operand r m (subst Right next (only_computed source pages calls (code_of source g) (bounds_at source g) (types_on source g k) (operand_of starts b) _ _ _ r c.active.next m at))
          (subst (IsIn tables v c.active.slots) there is, holds)
          (to_jump (failing, fails, subst (λ x. ConditionStack source g failing x r m c.frames k) there stack))

  pub chains : (os : Operations) (v : Kinded) (o : Operand) (k : List Entry) (e : Environment) (w : World) (c : Configuration)
      → IsWell (step source (Running (Given v) (Needs (Chain os) ∷ k) e w)) → Stands source pages calls v o k e w c
      → ValueStack source c.active.function e.locals v.kind o c.active.next c.frames (Needs (Chain os) ∷ k) → GoesAfter source pages calls v (Needs (Chain os) ∷ k) e w c
  chains NoOperations v o k e w c well (shared, facts, is, holds) stack =
      silently source pages calls (Running (Given v) (Needs (Chain NoOperations) ∷ k) e w) (Running (Given v) k e w) (plain.Running c) refl
      (shared, in_operand o facts is (kept_holds _ _ _ k holds) stack)
      (omega arith)
  chains (ThenCompute u b os) v o k e w c well stands (low, to_slot (d, q, (r, m, s, at_b, at, ops), lands)) =
      chain_goes_on (is_simple (starts_on source c.active.function k) b) u b os v o k e w c r m well refl low stands at_b
      (to_slot (next_slot os d (top source c.active.function k), s, at, chain_lands os kinds.Int c.active.function e.locals d s q c.frames k ops lands))
  chains (ThenCompute u b NoOperations) v o k e w c well stands (low, to_jump (inl (failing, r, q, (is, at_b), stack))) =
      chain_goes_on (is_simple (starts_on source c.active.function k) b) u b NoOperations v o k e w c r q well refl low stands at_b (to_jump (failing, is, stack))
  chains (ThenTest u b os) v o k e w c well (shared, facts, is, holds) (low, to_slot (d, q, (m, r, there, jump, at_b, truths, ops), lands)) =
      tests u b os v (c.active.slots (top source c.active.function k) == 0) k e w c d q well refl
      (shared, facts, subst (IsIn shared.tables v c.active.slots) there is, holds) (m, r, refl, jump, at_b, truths, ops) lands
  chains (ThenPointer u b os) v o k e w c well (shared, facts, is, holds) (low, to_slot (d, q, (r, m, s, there, at_b, here, ops), lands)) =
      let g = c.active.function in
      silently source pages calls (Running (Given v) (Needs (Chain (ThenPointer u b os)) ∷ k) e w) (Running (Evaluating b) (Needs (ApplyPointer None u v) ∷ Needs (Chain os) ∷ k) e w) (plain.Running c)
      (awaited (takes_kind u v.kind) (ApplyPointer None u v) b os k e w well) (
        shared,
        facts,
        right_follows source pages calls None u b os v k e w c r m (next_slot os d (top source g k)) s (awaited_fits (takes_kind u v.kind) (ApplyPointer None u v) b os k e w well) shared.tables
            (subst (IsIn shared.tables v c.active.slots) there is) holds at_b here (chain_lands os (operator_kind u) g e.locals d s q c.frames k ops lands),
      )
      (omega arith)
  chains (ThenPointerPeek n u b os) v o k e w c well (shared, facts, is, holds) (low, to_slot (d, q, (r, m, s, there, at_b, here, ops), lands)) =
      let g = c.active.function in
      silently source pages calls (Running (Given v) (Needs (Chain (ThenPointerPeek n u b os)) ∷ k) e w) (Running (Evaluating b) (Needs (ApplyPointer (Some n) u v) ∷ Needs (Chain os) ∷ k) e w) (plain.Running c)
      (awaited (takes_kind u v.kind) (ApplyPointer (Some n) u v) b os k e w well) (
        shared,
        facts,
        right_follows source pages calls (Some n) u b os v k e w c r m (next_slot os d (top source g k)) s (awaited_fits (takes_kind u v.kind) (ApplyPointer (Some n) u v) b os k e w well) shared.tables
            (subst (IsIn shared.tables v c.active.slots) there is) holds at_b here (chain_lands os (operator_kind u) g e.locals d s q c.frames k ops lands),
      )
      (omega arith)
  chains (ThenPointer u b NoOperations) v o k e w c well stands (low, to_jump (inl (failing, r, q, inl (fails, same, end), stack))) = null_goes_on u b v o r failing q k e w c well stands low fails same end stack
  chains (ThenPointer u b NoOperations) v o k e w c well (shared, facts, is, holds) (low, to_jump (inl (failing, r, q, inr (fails, at_b), stack))) =
      silently source pages calls (Running (Given v) (Needs (Chain (ThenPointer u b NoOperations)) ∷ k) e w) (Running (Evaluating b) (Needs (ApplyPointer None u v) ∷ Needs (Chain NoOperations) ∷ k) e w) (plain.Running c)
      (awaited (takes_kind u v.kind) (ApplyPointer None u v) b NoOperations k e w well)
      (shared, facts, pointer_beside (is_simple (starts_on source c.active.function k) b) None u b v o r failing q k e w c fails (awaited_fits (takes_kind u v.kind) (ApplyPointer None u v) b NoOperations k e w well) refl low shared.tables is holds at_b stack)
      (omega arith)
  chains (ThenPointerPeek n u b NoOperations) v o k e w c well stands (low, to_jump (inl (failing, r, q, inl (fails, same, end), stack))) = peek_goes_on n u b v o r failing q k e w c well stands low fails same end stack
  chains (ThenPointerPeek n u b NoOperations) v o k e w c well (shared, facts, is, holds) (low, to_jump (inl (failing, r, q, inr (fails, at_b), stack))) =
      silently source pages calls (Running (Given v) (Needs (Chain (ThenPointerPeek n u b NoOperations)) ∷ k) e w) (Running (Evaluating b) (Needs (ApplyPointer (Some n) u v) ∷ Needs (Chain NoOperations) ∷ k) e w) (plain.Running c)
      (awaited (takes_kind u v.kind) (ApplyPointer (Some n) u v) b NoOperations k e w well)
      (shared, facts, pointer_beside (is_simple (starts_on source c.active.function k) b) (Some n) u b v o r failing q k e w c fails (awaited_fits (takes_kind u v.kind) (ApplyPointer (Some n) u v) b NoOperations k e w well) refl low shared.tables is holds at_b stack)
      (omega arith)
  chains (ThenTest u b os) v o k e w c well (shared, facts, is, holds) (low, to_jump (inr stack)) =
      tested_given source pages calls v o (Needs (Chain (ThenTest u b os)) ∷ k) e w c (λ none. well (ap (λ z. status_in (status_of (tested z u b os k e w))) none)) shared facts is holds stack
  chains os v o k e w c well stands (low, to_jump (inl (failing, r, q, at, stack))) = absurd at
  chains os v o k e w c well stands (low, to_jump (inr (f, h, fork, first, second))) = absurd first
