-- Plans (sequences of machine operations) compute the operators and comparisons of a plain program.
use Rattle.std.proofs.Common.{◌≡◌, ◌≢◌, ℕ, suc, ◌-◌, ◌*◌, ◌/◌, ◌%◌, ◌^◌, ◌<◌, ◌≤◌, ℤ, pos, ◌+ℤ◌, ◌≤ℤ◌, ◌<ℤ◌, Bool, true, false, not, Option, Some, None, refl, sym, ap, ◌∙◌, arith, inl, inr}
use Rattle.std.specs.Prelude.{◌==◌, nat_le, int_le, int_lt, if◌then◌else◌, bit_and, bit_or, bit_xor}
use Rattle.std.specs.Int.{w32, bit_not}
use Rattle.std.proofs.lemmas.Bool.{le-leb}
use Rattle.std.proofs.lemmas.Option.{same_Some, none-some}
use Rattle.std.proofs.lemmas.Nat.{and_comm, or_comm, xor_comm}
use Rattle.std.proofs.Math.Nat.{mul_comm}
use Rattle.std.proofs.lemmas.Int.{ints}
use Rattle.cyc_words.specs.Word.{IsWord, signed, unsigned, sign_extended, floor_div, add_of, sub_of, mul_of, sar_of, slt_of, sltu_of}
use Rattle.cyc_words.proofs.WordLemmas.{slt_of_cases, sltu_of_cases}
use Rattle.cyc_words.proofs.Numbers.{eqb_turned}
use Rattle.cyc_isa.specs.Effect.{immediate_result, arithmetic_result, shift_result, high_result, low_result, branch_taken, branch_zero_taken}
use Rattle.cyc_isa.specs.declared.instr.BranchZeroOp.{BranchZeroOp}
use Rattle.cyc_isa.specs.declared.instr.BranchZeroOp.TheVariants as signs
use Rattle.cyc_isa.specs.declared.instr.MoveFromOp.{MoveFromOp}
use Rattle.cyc_isa.specs.declared.instr.MoveFromOp.TheVariants.{High, Low}
use Rattle.cyc_isa.specs.declared.instr.MultiplyDivideOp.{MultiplyDivideOp}
use Rattle.cyc_isa.specs.declared.instr.MultiplyDivideOp.TheVariants.{Multiply, Divide}
use Rattle.cyc_isa.specs.declared.instr.ArithmeticOp.{ArithmeticOp}
use Rattle.cyc_isa.specs.declared.instr.ArithmeticOp.TheVariants as arithmetic
use Rattle.cyc_isa.specs.declared.instr.ImmediateOp.{ImmediateOp}
use Rattle.cyc_isa.specs.declared.instr.ImmediateOp.TheVariants as immediate
use Rattle.cyc_isa.specs.declared.instr.ShiftOp.{ShiftOp}
use Rattle.cyc_isa.specs.declared.instr.ShiftOp.TheVariants as shift
use Rattle.cyc_plain.specs.declared.instruction.UnaryOperator.{UnaryOperator}
use Rattle.cyc_plain.specs.declared.instruction.UnaryOperator.TheVariants as unary
use Rattle.cyc_plain.specs.declared.instruction.BinaryOperator.{BinaryOperator}
use Rattle.cyc_plain.specs.declared.instruction.BinaryOperator.TheVariants as binary
use Rattle.cyc_plain.specs.declared.instruction.Comparison.{Comparison}
use Rattle.cyc_plain.specs.declared.instruction.Comparison.TheVariants as comparisons
use Rattle.cyc_plain.specs.declared.instruction.Operand.{Operand}
use Rattle.cyc_plain.specs.declared.instruction.Operand.TheVariants as operands
use Rattle.cyc_plain.specs.inside.Operators.{truth, unary_result, binary_result, compares}
use Rattle.cyc_plain.specs.inside.State.{Words}
use Rattle.cyc_plain.specs.inside.Step.{operand_word}
use Rattle.cyc_select.specs.declared.plan.Operation.{Operation}
use Rattle.cyc_select.specs.declared.plan.Operation.TheVariants as operations
use Rattle.cyc_select.specs.declared.plan.Outcome.{Outcome}
use Rattle.cyc_select.specs.declared.plan.Outcome.TheVariants as outcomes
use Rattle.cyc_select.specs.declared.plan.Plan.{Plan}
use Rattle.cyc_select.specs.declared.plan.Test.{Test}
use Rattle.cyc_select.specs.declared.plan.Test.TheVariants as tests
use Rattle.cyc_select.specs.inside.Numbers.{signed_half, negated_half, next_half, low_half, is_zero_word, is_plain_divisor, shift_amount, power_of}
use Rattle.cyc_select.specs.inside.Plans.{arithmetic_plan, immediate_plan, immediate_or, shift_by, multiply_divide_plan, product_or, mirrored, zero_plan, differs_plan, equal_plan, less_plan, less_unsigned_plan, at_most_plan}
use Rattle.cyc_select.specs.inside.Plans.{compared_plan, is_mirrored, comparison_plan, unary_plan, sum_plan, difference_plan, bits_plan, operator_plan, is_swapped, binary_plan, sign_of, sign_or, order_test, test_of}
use Rattle.cyc_select.specs.inside.Operands.{branch_on, is_tested}
use Rattle.cyc_select.proofs.values.Halves.{signed_is, negated_is, next_is, next_not_greatest, low_is, zero_is, amount_is, power_is, signed_fits, negated_half_fits, next_fits, low_fits, next_signed}
use Rattle.cyc_select.proofs.values.Operations.{zero_test, not_zero_test, difference_zero, low_product}

-- Returns the word `low` (from LO) for a quotient, and the word `high` (from HI) for a remainder.
abbrev pub if_low : MoveFromOp → (low high : ℕ) → ℕ
if_low High low high = high
if_low Low low high = low

-- ---- the result of a plan

abbrev pub multiply_divide_result : MultiplyDivideOp → MoveFromOp → ℕ → ℕ → ℕ
multiply_divide_result op High a b = high_result op a b
multiply_divide_result op Low a b = low_result op a b

abbrev pub operation_result : Operation → ℕ → ℕ → ℕ
operation_result (operations.Arithmetic op) a b = arithmetic_result op a b
operation_result (operations.Immediate op half) a b = immediate_result op a half
operation_result (operations.Shift op) a b = shift_result op a b
operation_result (operations.ShiftBy op amount) a b = shift_result op a (amount % 32)
operation_result (operations.MultiplyDivide op from) a b = multiply_divide_result op from a b

abbrev pub outcome_result : Outcome → ℕ → ℕ
outcome_result outcomes.AsItIs word = word
outcome_result outcomes.WhetherZero word = truth (word == 0)
outcome_result outcomes.WhetherNotZero word = truth (not (word == 0))

abbrev pub operation_word : Words → Plan → ℕ
operation_word slots plan =
    operation_result plan.operation (operand_word slots plan.left) (operand_word slots plan.right)

abbrev pub plan_word : Words → Plan → ℕ
plan_word slots plan = outcome_result plan.outcome (operation_word slots plan)

-- ---- comparisons

less_truth : (a b : ℕ) → slt_of a b ≡ truth (int_lt (signed a) (signed b))
less_truth a b = elim (slt_of_cases a b) [
  | inl (one, less) ↦ one ∙ sym (ap truth (below (signed a) (signed b) less))
  | inr (none, fine) ↦ none ∙ sym (ap truth (not_below (signed a) (signed b) fine))
]
  where
    below : (x y : ℤ) → x <ℤ y → int_lt x y ≡ true
    below x y less = grind (arith, ints)

    not_below : (x y : ℤ) → y ≤ℤ x → int_lt x y ≡ false
    not_below x y fine = grind (arith, ints)

not_less_truth : (a b : ℕ) → truth (slt_of b a == 0) ≡ truth (int_le (signed a) (signed b))
not_less_truth a b = elim (slt_of_cases b a) [
  | inl (one, less) ↦ ap (λ (n : ℕ). truth (n == 0)) one ∙ sym (ap truth (above (signed a) (signed b) less))
  | inr (none, fine) ↦ ap (λ (n : ℕ). truth (n == 0)) none ∙ sym (ap truth (at_most (signed a) (signed b) fine))
]
  where
    at_most : (x y : ℤ) → x ≤ℤ y → int_le x y ≡ true
    at_most x y fine = grind (arith, ints)

    above : (x y : ℤ) → y <ℤ x → int_le x y ≡ false
    above x y less = grind (arith, ints)

not_below_truth : (a b : ℕ) → truth (sltu_of a b == 0) ≡ truth (nat_le b a)
not_below_truth a b = elim (sltu_of_cases a b) [
  | inl (one, less) ↦ ap (λ (n : ℕ). truth (n == 0)) one ∙ sym (ap truth (above a b less))
  | inr (none, fine) ↦ ap (λ (n : ℕ). truth (n == 0)) none ∙ sym (ap truth (le-leb b a fine))
]
  where
    above : (x y : ℕ) → suc x ≤ y → nat_le y x ≡ false
    above x y less = grind arith

-- If two plans (sequences of machine operations) have the same value, a conditional choice between the plans has this value too.
via_if : (slots : Words) (b : Bool) (p q : Plan) (value : ℕ) → (b ≡ true → plan_word slots p ≡ value) → (b ≡ false → plan_word slots q ≡ value) → plan_word slots (if b then p else q) ≡ value
via_if slots true p q value first second = first refl
via_if slots false p q value first second = second refl

via_number : (slots : Words) (half : Option ℕ) (op : ImmediateOp) (left : Operand) (outcome : Outcome) (other : Plan) (value : ℕ) → ((h : ℕ) → half ≡ Some h → plan_word slots (immediate_plan op left h outcome) ≡ value)
    → plan_word slots other ≡ value → plan_word slots (immediate_or half op left outcome other) ≡ value
via_number slots (Some h) op left outcome other value with_number without = with_number h refl
via_number slots None op left outcome other value with_number without = without

-- ---- successors

next_less : (a b : ℕ) → IsWord b → b ≢ 2 ^ 31 - 1 → slt_of a (add_of b 1) ≡ truth (int_le (signed a) (signed b))
next_less a b fits other = less_truth a (add_of b 1) ∙ (ap (λ (z : ℤ). truth (int_lt (signed a) z)) (next_signed b fits other) ∙ ap truth (below_next (signed a) (signed b)))
  where
    below_next : (x y : ℤ) → int_lt x (y +ℤ pos 1) ≡ int_le x y
    below_next x y = grind (arith, ints)

next_not_less : (a b : ℕ) → IsWord b → b ≢ 2 ^ 31 - 1 → truth (slt_of a (add_of b 1) == 0) ≡ truth (int_lt (signed b) (signed a))
next_not_less a b fits other = not_less_truth (add_of b 1) a ∙ (ap (λ (z : ℤ). truth (int_le z (signed a))) (next_signed b fits other) ∙ ap truth (next_at_most (signed a) (signed b)))
  where
    next_at_most : (x y : ℤ) → int_le (y +ℤ pos 1) x ≡ int_lt y x
    next_at_most x y = grind (arith, ints)

module _ (slots : Words) (left right : Operand) (left_fits : IsWord (operand_word slots left)) (right_fits : IsWord (operand_word slots right)) where
  abbrev a : ℕ
  a = operand_word slots left

  abbrev b : ℕ
  b = operand_word slots right

  -- Adding the negated immediate of the right word computes the difference of two words.
  negated_sum : (h : ℕ) → negated_half right ≡ Some h → add_of a (sign_extended h) ≡ sub_of a b
  negated_sum h is = ap (add_of a) (negated_is slots right h is) ∙ (let e : add_of a (sub_of 0 b) ≡ sub_of a b = omega (arith, left_fits, right_fits) in e)

  differs_word : (outcome : Outcome) (value : ℕ) → outcome_result outcome (sub_of a b) ≡ value → plan_word slots (differs_plan left right outcome) ≡ value
  differs_word outcome value is =
      via_number slots (negated_half right) immediate.AddUnsigned left outcome (arithmetic_plan arithmetic.SubtractUnsigned left right outcome) value
      (λ h half. ap (outcome_result outcome) (negated_sum h half) ∙ is) is

  equal_word : plan_word slots (equal_plan left right true) ≡ truth (a == b)
  equal_word =
      via_if slots (is_zero_word right) (zero_plan left true) (differs_plan left right outcomes.WhetherZero) (truth (a == b))
      (λ zero. zero_test a ∙ ap (λ (n : ℕ). truth (a == n)) (sym (zero_is slots right zero)))
      (λ other. differs_word outcomes.WhetherZero (truth (a == b)) (ap truth (difference_zero a b left_fits right_fits)))

  unequal_word : plan_word slots (equal_plan left right false) ≡ truth (not (a == b))
  unequal_word =
      via_if slots (is_zero_word right) (zero_plan left false) (differs_plan left right outcomes.WhetherNotZero) (truth (not (a == b)))
      (λ zero. not_zero_test a ∙ ap (λ (n : ℕ). truth (not (a == n))) (sym (zero_is slots right zero)))
      (λ other. differs_word outcomes.WhetherNotZero (truth (not (a == b))) (ap (λ (t : Bool). truth (not t)) (difference_zero a b left_fits right_fits)))

  less_word : (outcome : Outcome) → plan_word slots (less_plan left right outcome) ≡ outcome_result outcome (slt_of a b)
  less_word outcome =
      via_number slots (signed_half right) immediate.SetLess left outcome (arithmetic_plan arithmetic.SetLess left right outcome) (outcome_result outcome (slt_of a b))
      (λ h half. ap (λ (n : ℕ). outcome_result outcome (slt_of a n)) (signed_is slots right h right_fits half)) refl

  less_unsigned_word : (outcome : Outcome) → plan_word slots (less_unsigned_plan left right outcome) ≡ outcome_result outcome (sltu_of a b)
  less_unsigned_word outcome =
      via_number slots (signed_half right) immediate.SetLessUnsigned left outcome (arithmetic_plan arithmetic.SetLessUnsigned left right outcome) (outcome_result outcome (sltu_of a b))
      (λ h half. ap (λ (n : ℕ). outcome_result outcome (sltu_of a n)) (signed_is slots right h right_fits half)) refl

  at_most_word : plan_word slots (at_most_plan left right true) ≡ truth (int_le (signed a) (signed b))
  at_most_word =
      via_number slots (next_half right) immediate.SetLess left outcomes.AsItIs (arithmetic_plan arithmetic.SetLess right left outcomes.WhetherZero) (truth (int_le (signed a) (signed b)))
      (λ h half. ap (slt_of a) (next_is slots right h half) ∙ next_less a b right_fits (next_not_greatest slots right h half)) (not_less_truth a b)

  greater_word : plan_word slots (at_most_plan left right false) ≡ truth (int_lt (signed b) (signed a))
  greater_word =
      via_number slots (next_half right) immediate.SetLess left outcomes.WhetherZero (arithmetic_plan arithmetic.SetLess right left outcomes.AsItIs) (truth (int_lt (signed b) (signed a)))
      (λ h half. ap (λ (n : ℕ). truth (slt_of a n == 0)) (next_is slots right h half) ∙ next_not_less a b right_fits (next_not_greatest slots right h half)) (less_truth b a)

  pub compared_word : (comparison : Comparison) → plan_word slots (compared_plan comparison left right) ≡ truth (compares comparison a b)
  compared_word comparisons.Equal = equal_word
  compared_word comparisons.NotEqual = unequal_word
  compared_word comparisons.Less = less_word outcomes.AsItIs ∙ less_truth a b
  compared_word comparisons.LessOrEqual = at_most_word
  compared_word comparisons.Greater = greater_word
  compared_word comparisons.GreaterOrEqual = less_word outcomes.WhetherZero ∙ not_less_truth b a
  compared_word comparisons.LessUnsigned = less_unsigned_word outcomes.AsItIs
  compared_word comparisons.GreaterOrEqualUnsigned = less_unsigned_word outcomes.WhetherZero ∙ not_below_truth a b

mirrored_same : (comparison : Comparison) (left : Operand) (a b : ℕ) → is_mirrored comparison left ≡ true → compares (mirrored comparison) b a ≡ compares comparison a b
mirrored_same comparisons.Equal left a b is = eqb_turned a b
mirrored_same comparisons.NotEqual left a b is = ap not (eqb_turned a b)
mirrored_same comparisons.Less left a b is = refl
mirrored_same comparisons.LessOrEqual left a b is = refl
mirrored_same comparisons.Greater left a b is = refl
mirrored_same comparisons.GreaterOrEqual left a b is = refl
mirrored_same comparisons.LessUnsigned left a b is = absurd (let e : false ≡ true = is in cc)
mirrored_same comparisons.GreaterOrEqualUnsigned left a b is = absurd (let e : false ≡ true = is in cc)

pub comparison_word : (slots : Words) (left right : Operand) → IsWord (operand_word slots left) → IsWord (operand_word slots right) → (comparison : Comparison)
    → plan_word slots (comparison_plan comparison left right) ≡ truth (compares comparison (operand_word slots left) (operand_word slots right))
comparison_word slots left right l r comparison =
    via_if slots (is_mirrored comparison left) (compared_plan (mirrored comparison) right left) (compared_plan comparison left right) (truth (compares comparison (operand_word slots left) (operand_word slots right)))
    (λ is. compared_word slots right left r l (mirrored comparison) ∙ ap truth (mirrored_same comparison left (operand_word slots left) (operand_word slots right) is))
    (λ is. compared_word slots left right l r comparison)

-- ---- operators

modulo : (op : ShiftOp) (a b : ℕ) → b % 32 % 32 % 32 ≡ b % 32 → shift_result op a (b % 32 % 32) ≡ shift_result op a b
unfolding sar_of
modulo shift.Left a b twice = ap (λ (n : ℕ). a * 2 ^ n % 2 ^ 32) twice
modulo shift.RightLogical a b twice = ap (λ (n : ℕ). a / 2 ^ n) twice
modulo shift.RightArithmetic a b twice = ap (λ (n : ℕ). unsigned (floor_div (signed a) (2 ^ n))) twice

shifted : (op : ShiftOp) (a b amount : ℕ) → amount ≡ b % 32 → shift_result op a (amount % 32) ≡ shift_result op a b
shifted op a b amount is = ap (λ (n : ℕ). shift_result op a (n % 32)) is ∙ modulo op a b (omega arith)

module _ (slots : Words) (left right : Operand) (left_fits : IsWord (operand_word slots left)) (right_fits : IsWord (operand_word slots right)) where
  abbrev first : ℕ
  first = operand_word slots left

  abbrev second : ℕ
  second = operand_word slots right

  sum_word : plan_word slots (sum_plan left right) ≡ add_of first second
  sum_word =
      via_number slots (signed_half right) immediate.AddUnsigned left outcomes.AsItIs (arithmetic_plan arithmetic.AddUnsigned left right outcomes.AsItIs) (add_of first second)
      (λ h half. ap (add_of first) (signed_is slots right h right_fits half)) refl

  difference_word : plan_word slots (difference_plan left right) ≡ sub_of first second
  difference_word =
      via_number slots (negated_half right) immediate.AddUnsigned left outcomes.AsItIs (arithmetic_plan arithmetic.SubtractUnsigned left right outcomes.AsItIs) (sub_of first second)
      (λ h half. negated_sum slots left right left_fits right_fits h half) refl

  and_word : plan_word slots (bits_plan arithmetic.And immediate.And left right) ≡ bit_and first second
  and_word =
      via_number slots (low_half right) immediate.And left outcomes.AsItIs (arithmetic_plan arithmetic.And left right outcomes.AsItIs) (bit_and first second)
      (λ h half. ap (bit_and first) (low_is slots right h half)) refl

  or_word : plan_word slots (bits_plan arithmetic.Or immediate.Or left right) ≡ bit_or first second
  or_word =
      via_number slots (low_half right) immediate.Or left outcomes.AsItIs (arithmetic_plan arithmetic.Or left right outcomes.AsItIs) (bit_or first second)
      (λ h half. ap (bit_or first) (low_is slots right h half)) refl

  xor_word : plan_word slots (bits_plan arithmetic.Xor immediate.Xor left right) ≡ bit_xor first second
  xor_word =
      via_number slots (low_half right) immediate.Xor left outcomes.AsItIs (arithmetic_plan arithmetic.Xor left right outcomes.AsItIs) (bit_xor first second)
      (λ h half. ap (bit_xor first) (low_is slots right h half)) refl

  shift_word : (op : ShiftOp) (amount : Option ℕ) → shift_amount right ≡ amount → plan_word slots (shift_by amount op left right) ≡ shift_result op first second
  shift_word op (Some amount) is = shifted op first second amount (amount_is slots right amount is)
  shift_word op None is = refl

  product_word : (amount : Option ℕ) → power_of right ≡ amount → plan_word slots (product_or amount left right) ≡ mul_of first second
  product_word (Some amount) is =
      let (power, few) = power_is slots right amount right_fits is in
      let whole : amount % 32 % 32 ≡ amount = omega (arith, few) in
      ap (λ (n : ℕ). first * 2 ^ n % 2 ^ 32) whole ∙ ap (λ (n : ℕ). first * n % 2 ^ 32) power
  product_word None is = low_product first second left_fits right_fits

  pub operator_word : (operator : BinaryOperator) → plan_word slots (operator_plan operator left right) ≡ binary_result operator first second
  operator_word binary.Add = sum_word
  operator_word binary.Subtract = difference_word
  operator_word binary.Multiply = product_word (power_of right) refl
  operator_word binary.Divide = refl
  operator_word binary.Remainder = refl
  operator_word binary.And = and_word
  operator_word binary.Or = or_word
  operator_word binary.Xor = xor_word
  operator_word binary.ShiftLeft = shift_word shift.Left (shift_amount right) refl
  operator_word binary.ShiftRight = shift_word shift.RightArithmetic (shift_amount right) refl
  operator_word binary.Equal = comparison_word slots left right left_fits right_fits comparisons.Equal
  operator_word binary.NotEqual = comparison_word slots left right left_fits right_fits comparisons.NotEqual
  operator_word binary.Less = comparison_word slots left right left_fits right_fits comparisons.Less ∙ sym (less_truth first second)
  operator_word binary.LessOrEqual = comparison_word slots left right left_fits right_fits comparisons.LessOrEqual
  operator_word binary.Greater = comparison_word slots left right left_fits right_fits comparisons.Greater ∙ sym (less_truth second first)
  operator_word binary.GreaterOrEqual = comparison_word slots left right left_fits right_fits comparisons.GreaterOrEqual

swapped_same : (operator : BinaryOperator) (left : Operand) (a b : ℕ) → is_swapped operator left ≡ true → binary_result operator b a ≡ binary_result operator a b
swapped_same binary.Add left a b is = let e : add_of b a ≡ add_of a b = omega arith in e
swapped_same binary.Multiply left a b is = ap (λ (n : ℕ). n % 2 ^ 32) (mul_comm b a)
swapped_same binary.And left a b is = and_comm b a
swapped_same binary.Or left a b is = or_comm b a
swapped_same binary.Xor left a b is = xor_comm b a
swapped_same operator left a b is = absurd (let e : false ≡ true = is in cc)

pub binary_word : (slots : Words) (left right : Operand) → IsWord (operand_word slots left) → IsWord (operand_word slots right) → (operator : BinaryOperator)
    → plan_word slots (binary_plan operator left right) ≡ binary_result operator (operand_word slots left) (operand_word slots right)
binary_word slots left right l r operator =
    via_if slots (is_swapped operator left) (operator_plan operator right left) (operator_plan operator left right) (binary_result operator (operand_word slots left) (operand_word slots right))
    (λ is. operator_word slots right left r l operator ∙ swapped_same operator left (operand_word slots left) (operand_word slots right) is)
    (λ is. operator_word slots left right l r operator)

pub unary_word : (slots : Words) (operand : Operand) → IsWord (operand_word slots operand) → (operator : UnaryOperator) → plan_word slots (unary_plan operator operand) ≡ unary_result operator (operand_word slots operand)
unary_word slots operand fits unary.Negate = refl
unary_word slots operand fits unary.Complement = ap (bit_not w32) (let e : bit_or 0 (operand_word slots operand) ≡ operand_word slots operand = refl in e)
unary_word slots operand fits unary.Not = comparison_word slots operand (operands.Word 0) fits (omega arith) comparisons.Equal

-- ---- tests

-- Returns true if the branch of a test is taken for the given slot values.
abbrev pub test_taken : Words → Test → Bool
test_taken slots (tests.Operands op left right) = branch_taken op (operand_word slots left) (operand_word slots right)
test_taken slots (tests.Sign op operand) = branch_zero_taken op (operand_word slots operand)
test_taken slots (tests.Computed plan) = branch_taken (branch_on plan.outcome) (operation_word slots plan) 0

truth_injective : (s t : Bool) → truth s ≡ truth t → s ≡ t
truth_injective true true same = refl
truth_injective false false same = refl
truth_injective true false same = absurd (omega (arith, same))
truth_injective false true same = absurd (omega (arith, same))

not_truth_zero : (t : Bool) → not (truth t == 0) ≡ t
not_truth_zero true = refl
not_truth_zero false = refl

-- A branch on the word that a plan (machine operations) computes before its final step is taken exactly if the plan's result would be 1.
branches_on : (o : Outcome) (word : ℕ) (t : Bool) → outcome_result o word ≡ truth t → branch_taken (branch_on o) word 0 ≡ t
branches_on outcomes.AsItIs word t is = ap (λ (n : ℕ). not (n == 0)) is ∙ not_truth_zero t
branches_on outcomes.WhetherZero word t is = truth_injective (word == 0) t is
branches_on outcomes.WhetherNotZero word t is = truth_injective (not (word == 0)) t is

-- A branch on the sign of a word is taken exactly if its comparison of this word with 0 holds.
sign_taken : (comparison : Comparison) (op : BranchZeroOp) (word : ℕ) → sign_of comparison ≡ Some op → branch_zero_taken op word ≡ compares comparison word 0
sign_taken comparisons.Less op word is = ap (λ (o : BranchZeroOp). branch_zero_taken o word) (sym (same_Some signs.Less op is))
sign_taken comparisons.LessOrEqual op word is = ap (λ (o : BranchZeroOp). branch_zero_taken o word) (sym (same_Some signs.LessOrEqual op is))
sign_taken comparisons.Greater op word is = ap (λ (o : BranchZeroOp). branch_zero_taken o word) (sym (same_Some signs.Greater op is))
sign_taken comparisons.GreaterOrEqual op word is = ap (λ (o : BranchZeroOp). branch_zero_taken o word) (sym (same_Some signs.GreaterOrEqual op is))
sign_taken comparison op word is = absurd (none-some op is)

sign_turned : (comparison : Comparison) (op : BranchZeroOp) (word : ℕ) → sign_of (mirrored comparison) ≡ Some op → compares (mirrored comparison) word 0 ≡ compares comparison 0 word
sign_turned comparisons.Less op word is = refl
sign_turned comparisons.LessOrEqual op word is = refl
sign_turned comparisons.Greater op word is = refl
sign_turned comparisons.GreaterOrEqual op word is = refl
sign_turned comparison op word is = absurd (none-some op is)

module _ (slots : Words) (left right : Operand) (left_fits : IsWord (operand_word slots left)) (right_fits : IsWord (operand_word slots right)) where
  computed_taken : (comparison : Comparison) → test_taken slots (tests.Computed (comparison_plan comparison left right)) ≡ compares comparison (operand_word slots left) (operand_word slots right)
  computed_taken comparison =
      let plan = comparison_plan comparison left right in
      branches_on plan.outcome (operation_word slots plan) (compares comparison (operand_word slots left) (operand_word slots right))
      (comparison_word slots left right left_fits right_fits comparison)

  order_taken : (comparison : Comparison) → test_taken slots (order_test comparison left right) ≡ compares comparison (operand_word slots left) (operand_word slots right)
  order_taken comparison = go (is_zero_word right) (is_zero_word left) refl refl
    where
      -- A test with the operand 0 on the right can be replaced by a test of the left operand's sign.
      with_sign : (o : Option BranchZeroOp) → sign_of comparison ≡ o → operand_word slots right ≡ 0 → test_taken slots (sign_or o left (tests.Computed (comparison_plan comparison left right))) ≡ compares comparison (operand_word slots left) (operand_word slots right)
      with_sign (Some op) is zero = sign_taken comparison op (operand_word slots left) is ∙ ap (compares comparison (operand_word slots left)) (sym zero)
      with_sign None is zero = computed_taken comparison

      with_turned : (o : Option BranchZeroOp) → sign_of (mirrored comparison) ≡ o → operand_word slots left ≡ 0 → test_taken slots (sign_or o right (tests.Computed (comparison_plan comparison left right))) ≡ compares comparison (operand_word slots left) (operand_word slots right)
      with_turned (Some op) is zero =
          sign_taken (mirrored comparison) op (operand_word slots right) is
          ∙ (sign_turned comparison op (operand_word slots right) is ∙ ap (λ (n : ℕ). compares comparison n (operand_word slots right)) (sym zero))
      with_turned None is zero = computed_taken comparison

      go : (a b : Bool) → is_zero_word right ≡ a → is_zero_word left ≡ b
          → test_taken slots (if a then sign_or (sign_of comparison) left (tests.Computed (comparison_plan comparison left right)) else (if b then sign_or (sign_of (mirrored comparison)) right (tests.Computed (comparison_plan comparison left right)) else tests.Computed (comparison_plan comparison left right)))
          ≡ compares comparison (operand_word slots left) (operand_word slots right)
      go true b is other = with_sign (sign_of comparison) refl (zero_is slots right is)
      go false true not_right is = with_turned (sign_of (mirrored comparison)) refl (zero_is slots left is)
      go false false not_right not_left = computed_taken comparison

  pub test_goes : (comparison : Comparison) → test_taken slots (test_of comparison left right) ≡ compares comparison (operand_word slots left) (operand_word slots right)
  test_goes comparisons.Equal = refl
  test_goes comparisons.NotEqual = refl
  test_goes comparison = order_taken comparison

-- ---- a property of all plans

-- A property holds for all plans (sequences of machine operations) if it holds for each plan made from operands that satisfy
-- `P`. The word 0 must satisfy `P`.
module _ (P : Operand → Type 0) (zero : P (operands.Word 0)) (Q : Plan → Type 0)
    (of_arithmetic : (op : ArithmeticOp) (left right : Operand) (outcome : Outcome) → P left → P right → Q (arithmetic_plan op left right outcome))
    (of_immediate : (op : ImmediateOp) (left : Operand) (half : ℕ) (outcome : Outcome) → half < 2 ^ 16 → P left → Q (immediate_plan op left half outcome)) where
  all_if : (b : Bool) (p q : Plan) → Q p → Q q → Q (if b then p else q)
  all_if true p q first second = first
  all_if false p q first second = second

  all_number : (half : Option ℕ) (op : ImmediateOp) (left : Operand) (outcome : Outcome) (other : Plan) → ((h : ℕ) → half ≡ Some h → h < 2 ^ 16) → P left → Q other → Q (immediate_or half op left outcome other)
  all_number (Some h) op left outcome other fits l without = of_immediate op left h outcome (fits h refl) l
  all_number None op left outcome other fits l without = without

  all_zero : (operand : Operand) (holds : Bool) → P operand → Q (zero_plan operand holds)
  all_zero operand true o = of_immediate immediate.SetLessUnsigned operand 1 outcomes.AsItIs (omega arith) o
  all_zero operand false o = of_arithmetic arithmetic.SetLessUnsigned (operands.Word 0) operand outcomes.AsItIs zero o

  all_equal : (left right : Operand) (holds : Bool) → P left → P right → Q (equal_plan left right holds)
  all_equal left right holds l r =
      let outcome : Outcome = if holds then outcomes.WhetherZero else outcomes.WhetherNotZero in
      all_if (is_zero_word right) (zero_plan left holds) (differs_plan left right (if holds then outcomes.WhetherZero else outcomes.WhetherNotZero)) (all_zero left holds l)
      (all_number (negated_half right) immediate.AddUnsigned left outcome (arithmetic_plan arithmetic.SubtractUnsigned left right (if holds then outcomes.WhetherZero else outcomes.WhetherNotZero)) (negated_half_fits right) l
      (of_arithmetic arithmetic.SubtractUnsigned left right outcome l r))

  all_less : (left right : Operand) (outcome : Outcome) → P left → P right → Q (less_plan left right outcome)
  all_less left right outcome l r =
      all_number (signed_half right) immediate.SetLess left outcome (arithmetic_plan arithmetic.SetLess left right outcome) (signed_fits right) l (of_arithmetic arithmetic.SetLess left right outcome l r)

  all_less_unsigned : (left right : Operand) (outcome : Outcome) → P left → P right → Q (less_unsigned_plan left right outcome)
  all_less_unsigned left right outcome l r =
      all_number (signed_half right) immediate.SetLessUnsigned left outcome (arithmetic_plan arithmetic.SetLessUnsigned left right outcome) (signed_fits right) l (of_arithmetic arithmetic.SetLessUnsigned left right outcome l r)

  all_at_most : (left right : Operand) (holds : Bool) → P left → P right → Q (at_most_plan left right holds)
  all_at_most left right holds l r =
      all_number (next_half right) immediate.SetLess left (if holds then outcomes.AsItIs else outcomes.WhetherZero)
      (arithmetic_plan arithmetic.SetLess right left (if holds then outcomes.WhetherZero else outcomes.AsItIs)) (next_fits right) l
      (of_arithmetic arithmetic.SetLess right left (if holds then outcomes.WhetherZero else outcomes.AsItIs) r l)

  all_compared : (comparison : Comparison) (left right : Operand) → P left → P right → Q (compared_plan comparison left right)
  all_compared comparisons.Equal left right l r = all_equal left right true l r
  all_compared comparisons.NotEqual left right l r = all_equal left right false l r
  all_compared comparisons.Less left right l r = all_less left right outcomes.AsItIs l r
  all_compared comparisons.LessOrEqual left right l r = all_at_most left right true l r
  all_compared comparisons.Greater left right l r = all_at_most left right false l r
  all_compared comparisons.GreaterOrEqual left right l r = all_less left right outcomes.WhetherZero l r
  all_compared comparisons.LessUnsigned left right l r = all_less_unsigned left right outcomes.AsItIs l r
  all_compared comparisons.GreaterOrEqualUnsigned left right l r = all_less_unsigned left right outcomes.WhetherZero l r

  pub all_comparison : (comparison : Comparison) (left right : Operand) → P left → P right → Q (comparison_plan comparison left right)
  all_comparison comparison left right l r =
      all_if (is_mirrored comparison left) (compared_plan (mirrored comparison) right left) (compared_plan comparison left right) (all_compared (mirrored comparison) right left r l) (all_compared comparison left right l r)

  pub all_unary : (operator : UnaryOperator) (operand : Operand) → P operand → Q (unary_plan operator operand)
  all_unary unary.Negate operand o = of_arithmetic arithmetic.SubtractUnsigned (operands.Word 0) operand outcomes.AsItIs zero o
  all_unary unary.Complement operand o = of_arithmetic arithmetic.Nor (operands.Word 0) operand outcomes.AsItIs zero o
  all_unary unary.Not operand o = all_comparison comparisons.Equal operand (operands.Word 0) o zero

  -- `AllOfTest` says that the operands that a test compares satisfy `P`, or that the plan (machine operations) that it computes
  -- satisfies `Q`.
  abbrev pub AllOfTest : Test → Type 0
  AllOfTest (tests.Operands op left right) = P left × P right
  AllOfTest (tests.Sign op operand) = P operand
  AllOfTest (tests.Computed plan) = Q plan

  all_sign : (o : Option BranchZeroOp) (operand : Operand) (other : Test) → P operand → AllOfTest other → AllOfTest (sign_or o operand other)
  all_sign (Some op) operand other o all = o
  all_sign None operand other o all = all

  all_order : (comparison : Comparison) (left right : Operand) → P left → P right → AllOfTest (order_test comparison left right)
  all_order comparison left right l r = go (is_zero_word right) (is_zero_word left)
    where
      computed : AllOfTest (tests.Computed (comparison_plan comparison left right))
      computed = all_comparison comparison left right l r

      go : (a b : Bool)
          → AllOfTest (if a then sign_or (sign_of comparison) left (tests.Computed (comparison_plan comparison left right)) else (if b then sign_or (sign_of (mirrored comparison)) right (tests.Computed (comparison_plan comparison left right)) else tests.Computed (comparison_plan comparison left right)))
      go true b = all_sign (sign_of comparison) left (tests.Computed (comparison_plan comparison left right)) l computed
      go false true = all_sign (sign_of (mirrored comparison)) right (tests.Computed (comparison_plan comparison left right)) r computed
      go false false = computed

  pub all_test : (comparison : Comparison) (left right : Operand) → P left → P right → AllOfTest (test_of comparison left right)
  all_test comparisons.Equal left right l r = (l, r)
  all_test comparisons.NotEqual left right l r = (l, r)
  all_test comparison left right l r = all_order comparison left right l r

  -- A division is computed by a plan (a sequence of machine operations) if its divisor needs no test.
  module _ (of_shift : (op : ShiftOp) (left right : Operand) → P left → P right → Q (shift_by None op left right))
      (of_shift_by : (op : ShiftOp) (left right : Operand) (amount : ℕ) → P left → Q (shift_by (Some amount) op left right))
      (of_product : (left right : Operand) → P left → P right → Q (multiply_divide_plan Multiply Low left right))
      (of_quotient : (from : MoveFromOp) (left right : Operand) → is_plain_divisor right ≡ true → P left → P right → Q (multiply_divide_plan Divide from left right)) where
    all_shift : (op : ShiftOp) (left right : Operand) (amount : Option ℕ) → P left → P right → Q (shift_by amount op left right)
    all_shift op left right (Some amount) l r = of_shift_by op left right amount l
    all_shift op left right None l r = of_shift op left right l r

    all_bits : (op : ArithmeticOp) (number_op : ImmediateOp) (left right : Operand) → P left → P right → Q (bits_plan op number_op left right)
    all_bits op number_op left right l r =
        all_number (low_half right) number_op left outcomes.AsItIs (arithmetic_plan op left right outcomes.AsItIs) (low_fits right) l (of_arithmetic op left right outcomes.AsItIs l r)

    not_false : (b : Bool) → not b ≡ false → b ≡ true
    not_false true is = refl
    not_false false is = absurd (let e : true ≡ false = is in cc)

    all_product : (left right : Operand) (amount : Option ℕ) → P left → P right → Q (product_or amount left right)
    all_product left right (Some amount) l r = of_shift_by shift.Left left right amount l
    all_product left right None l r = of_product left right l r

    all_operator : (operator : BinaryOperator) (left right : Operand) → is_tested operator right ≡ false → P left → P right → Q (operator_plan operator left right)
    all_operator binary.Add left right fine l r =
        all_number (signed_half right) immediate.AddUnsigned left outcomes.AsItIs (arithmetic_plan arithmetic.AddUnsigned left right outcomes.AsItIs) (signed_fits right) l (of_arithmetic arithmetic.AddUnsigned left right outcomes.AsItIs l r)
    all_operator binary.Subtract left right fine l r =
        all_number (negated_half right) immediate.AddUnsigned left outcomes.AsItIs (arithmetic_plan arithmetic.SubtractUnsigned left right outcomes.AsItIs) (negated_half_fits right) l (of_arithmetic arithmetic.SubtractUnsigned left right outcomes.AsItIs l r)
    all_operator binary.Multiply left right fine l r = all_product left right (power_of right) l r
    all_operator binary.Divide left right fine l r = of_quotient Low left right (not_false (is_plain_divisor right) fine) l r
    all_operator binary.Remainder left right fine l r = of_quotient High left right (not_false (is_plain_divisor right) fine) l r
    all_operator binary.And left right fine l r = all_bits arithmetic.And immediate.And left right l r
    all_operator binary.Or left right fine l r = all_bits arithmetic.Or immediate.Or left right l r
    all_operator binary.Xor left right fine l r = all_bits arithmetic.Xor immediate.Xor left right l r
    all_operator binary.ShiftLeft left right fine l r = all_shift shift.Left left right (shift_amount right) l r
    all_operator binary.ShiftRight left right fine l r = all_shift shift.RightArithmetic left right (shift_amount right) l r
    all_operator binary.Equal left right fine l r = all_comparison comparisons.Equal left right l r
    all_operator binary.NotEqual left right fine l r = all_comparison comparisons.NotEqual left right l r
    all_operator binary.Less left right fine l r = all_comparison comparisons.Less left right l r
    all_operator binary.LessOrEqual left right fine l r = all_comparison comparisons.LessOrEqual left right l r
    all_operator binary.Greater left right fine l r = all_comparison comparisons.Greater left right l r
    all_operator binary.GreaterOrEqual left right fine l r = all_comparison comparisons.GreaterOrEqual left right l r

    -- If the operands of a commutative operator, which is never a division, satisfy `P`, the plan (machine
    -- operations) for the exchanged operands satisfies `Q`.
    all_swapped : (operator : BinaryOperator) (left right : Operand) → is_swapped operator left ≡ true → P left → P right → Q (operator_plan operator right left)
    all_swapped binary.Add left right is l r = all_operator binary.Add right left refl r l
    all_swapped binary.Multiply left right is l r = all_operator binary.Multiply right left refl r l
    all_swapped binary.And left right is l r = all_operator binary.And right left refl r l
    all_swapped binary.Or left right is l r = all_operator binary.Or right left refl r l
    all_swapped binary.Xor left right is l r = all_operator binary.Xor right left refl r l
    all_swapped operator left right is l r = absurd (let e : false ≡ true = is in cc)

    pub all_binary : (operator : BinaryOperator) (left right : Operand) → is_tested operator right ≡ false → P left → P right → Q (binary_plan operator left right)
    all_binary operator left right fine l r = go (is_swapped operator left) refl
      where
        go : (b : Bool) → is_swapped operator left ≡ b → Q (if b then operator_plan operator right left else operator_plan operator left right)
        go true is = all_swapped operator left right is l r
        go false is = all_operator operator left right fine l r
