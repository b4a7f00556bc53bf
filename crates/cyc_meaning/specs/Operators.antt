-- The operators on values: those of C on a machine of 32 bits (ISO C's operators, which Cyclone keeps). Sums wrap, shifts count modulo 32,
-- and division by 0 raises an exception; wrapping, counting and raising are this project's own choice.
use Rattle.std.specs.Prelude.{ℕ, ◌%◌, ◌==◌, Bool, true, false, not, if◌then◌else◌, int_le, bit_and, bit_or, bit_xor, Option, Some, None}
use Rattle.std.specs.Int.{w32, bit_not}
use Rattle.cyc_words.specs.Word.{signed, add_of, sub_of, mul_of, shl_of, sar_of, slt_of, div_of, rem_of}
use Rattle.cyc_types.specs.declared.typed.Kind.{Kind}
use Rattle.cyc_types.specs.declared.typed.Kind.TheVariants as kinds
use Rattle.cyc_types.specs.declared.typed.Operator.{Operator}
use Rattle.cyc_types.specs.declared.typed.Operator.TheVariants as operators
use Rattle.cyc_types.specs.declared.typed.UnaryOperator.{UnaryOperator}
use Rattle.cyc_types.specs.declared.typed.UnaryOperator.TheVariants as unary
use Rattle.cyc_types.specs.declared.typed.LogicalOperator.{LogicalOperator}
use Rattle.cyc_types.specs.declared.typed.LogicalOperator.TheVariants as logical
use Rattle.cyc_meaning.specs.Values.{Value, Int, Null, Thin, Fat, Handle, Key}

-- The result of a computation: a value, an exception with its tag, or `Misfits` if no case applies, which makes the state `Wrong`.
pub data Result : Type 0 where
  Gives : Value → Result
  Raises : (tag : ℕ) → Result
  Misfits : Result

-- The number that identifies the built-in exception raised by an access through null.
abbrev pub null_exception : ℕ
null_exception = 1

abbrev pub array_bounds : ℕ
array_bounds = 2

abbrev pub array_size : ℕ
array_size = 3

abbrev pub division_by_zero : ℕ
division_by_zero = 4

-- Returns the word of a truth value: 1 or 0.
abbrev pub truth : Bool → ℕ
truth holds = if holds then 1 else 0

-- ---- words

abbrev pub binary_word : Operator → ℕ → ℕ → ℕ
binary_word operators.Or a b = bit_or a b
binary_word operators.Xor a b = bit_xor a b
binary_word operators.And a b = bit_and a b
binary_word operators.Equal a b = truth (a == b)
binary_word operators.NotEqual a b = truth (not (a == b))
binary_word operators.Less a b = slt_of a b
binary_word operators.LessOrEqual a b = truth (int_le (signed a) (signed b))
binary_word operators.Greater a b = slt_of b a
binary_word operators.GreaterOrEqual a b = truth (int_le (signed b) (signed a))
binary_word operators.ShiftLeft a b = shl_of a b
binary_word operators.ShiftRight a b = sar_of a b
binary_word operators.Add a b = add_of a b
binary_word operators.Subtract a b = sub_of a b
binary_word operators.Multiply a b = mul_of a b
binary_word operators.Divide a b = div_of a b
binary_word operators.Remainder a b = rem_of a b

-- Returns true if the operator is a division or a remainder and the divisor is 0.
abbrev pub has_no_result : Operator → ℕ → Bool
has_no_result operators.Divide b = b == 0
has_no_result operators.Remainder b = b == 0
has_no_result operator b = false

-- ---- values

-- Returns true if a condition with this value fails: the value is 0 or the null pointer. An out-of-bounds pointer is not null.
abbrev pub is_zero : Value → Option Bool
is_zero (Int a) = Some (a == 0)
is_zero Null = Some true
is_zero (Thin object offset) = Some false
is_zero (Fat object start count index) = Some false
is_zero (Handle region) = None
is_zero (Key region) = None

abbrev pub word_result : Operator → ℕ → ℕ → Result
word_result operator a b = if has_no_result operator b then Raises division_by_zero else Gives (Int (binary_word operator a b))

abbrev pub binary_result : Operator → Value → Value → Result
binary_result operator (Int a) (Int b) = word_result operator a b
binary_result operator left right = Misfits

abbrev pub truth_result : Option Bool → Result
truth_result (Some holds) = Gives (Int (truth holds))
truth_result None = Misfits

abbrev pub unary_result : UnaryOperator → Value → Result
unary_result unary.Negate (Int a) = Gives (Int (sub_of 0 a))
unary_result unary.Complement (Int a) = Gives (Int (bit_not w32 a))
unary_result unary.Not value = truth_result (is_zero value)
unary_result unary.Widen (Int a) = Gives (Int a)
unary_result unary.LowByte (Int a) = Gives (Int (a % 256))
unary_result operator value = Misfits

-- Returns the representation kind (int or char) of a unary operator's result.
abbrev pub unary_kind : UnaryOperator → Kind
unary_kind unary.Negate = kinds.Int
unary_kind unary.Not = kinds.Int
unary_kind unary.Complement = kinds.Int
unary_kind unary.Widen = kinds.Int
unary_kind unary.LowByte = kinds.Char

-- Returns the value of the right operand of `&&` and `||`, as a truth value 0 or 1.
abbrev pub truth_of : Option Bool → Result
truth_of (Some fails) = Gives (Int (truth (not fails)))
truth_of None = Misfits

-- Returns true if the left operand of `&&` or `||` decides the result: a zero operand decides `&&`, and any other operand decides `||`.
abbrev pub decides : LogicalOperator → (fails : Bool) → Bool
decides logical.AndThen fails = fails
decides logical.OrElse fails = not fails
