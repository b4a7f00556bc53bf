-- The operators of a plain program on words: those of C on a 32-bit machine. Sums wrap, and shift counts are taken modulo 32, as this
-- project chooses.
use Rattle.std.specs.Prelude.{ℕ, ◌==◌, Bool, false, not, if◌then◌else◌, nat_le, nat_lt, int_le, int_lt, bit_and, bit_or, bit_xor}
use Rattle.std.specs.Int.{w32, bit_not}
use Rattle.cyc_words.specs.Word.{signed, add_of, sub_of, mul_of, shl_of, sar_of, slt_of, div_of, rem_of}
use Rattle.cyc_plain.specs.declared.instruction.UnaryOperator.{UnaryOperator}
use Rattle.cyc_plain.specs.declared.instruction.UnaryOperator.TheVariants as unary
use Rattle.cyc_plain.specs.declared.instruction.BinaryOperator.{BinaryOperator}
use Rattle.cyc_plain.specs.declared.instruction.BinaryOperator.TheVariants as binary
use Rattle.cyc_plain.specs.declared.instruction.Comparison.{Comparison}
use Rattle.cyc_plain.specs.declared.instruction.Comparison.TheVariants as comparisons

-- Returns the word that represents a truth value: 1 or 0.
abbrev pub truth : Bool → ℕ
truth holds = if holds then 1 else 0

abbrev pub unary_result : UnaryOperator → ℕ → ℕ
unary_result unary.Negate a = sub_of 0 a
unary_result unary.Complement a = bit_not w32 a
unary_result unary.Not a = truth (a == 0)

abbrev pub binary_result : BinaryOperator → ℕ → ℕ → ℕ
binary_result binary.Add a b = add_of a b
binary_result binary.Subtract a b = sub_of a b
binary_result binary.Multiply a b = mul_of a b
binary_result binary.Divide a b = div_of a b
binary_result binary.Remainder a b = rem_of a b
binary_result binary.And a b = bit_and a b
binary_result binary.Or a b = bit_or a b
binary_result binary.Xor a b = bit_xor a b
binary_result binary.ShiftLeft a b = shl_of a b
binary_result binary.ShiftRight a b = sar_of a b
binary_result binary.Equal a b = truth (a == b)
binary_result binary.NotEqual a b = truth (not (a == b))
binary_result binary.Less a b = slt_of a b
binary_result binary.LessOrEqual a b = truth (int_le (signed a) (signed b))
binary_result binary.Greater a b = slt_of b a
binary_result binary.GreaterOrEqual a b = truth (int_le (signed b) (signed a))

-- Returns true if an operator is a division or remainder and its divisor is 0.
abbrev pub has_no_result : BinaryOperator → ℕ → Bool
has_no_result binary.Divide b = b == 0
has_no_result binary.Remainder b = b == 0
has_no_result operator b = false

-- Returns true if a comparison of two words holds.
abbrev pub compares : Comparison → ℕ → ℕ → Bool
compares comparisons.Equal a b = a == b
compares comparisons.NotEqual a b = not (a == b)
compares comparisons.Less a b = int_lt (signed a) (signed b)
compares comparisons.LessOrEqual a b = int_le (signed a) (signed b)
compares comparisons.Greater a b = int_lt (signed b) (signed a)
compares comparisons.GreaterOrEqual a b = int_le (signed b) (signed a)
compares comparisons.LessUnsigned a b = nat_lt a b
compares comparisons.GreaterOrEqualUnsigned a b = nat_le b a
