-- The numbers in an instruction: sign- or zero-extended 16-bit immediates, and shift amounts. The formats of these numbers are
-- those of the MIPS32 architecture.
use Rattle.std.specs.Prelude.{ℕ, ◌-◌, ◌%◌, ◌^◌, ◌==◌, Bool, true, false, not, ◌&&◌, ◌||◌, nat_le, nat_lt, Option, Some, None, if◌then◌else◌}
use Rattle.std.specs.Int.Count.{count_trailing_zeros}
use Rattle.cyc_words.specs.Word.{add_of, sub_of}
use Rattle.cyc_plain.specs.declared.instruction.Operand.{Operand}
use Rattle.cyc_plain.specs.declared.instruction.Operand.TheVariants as operands

-- Returns true if a word equals its sign-extended lower half.
abbrev pub fits_signed : ℕ → Bool
fits_signed word = nat_lt word (2 ^ 15) || nat_le (2 ^ 32 - 2 ^ 15) word

-- Returns the 16-bit immediate that sign-extends to this word, if one exists.
abbrev pub half_of : ℕ → Option ℕ
half_of word = if fits_signed word then Some (word % 2 ^ 16) else None

-- Returns the sign-extended immediate for a constant operand, if one exists.
abbrev pub signed_half : Operand → Option ℕ
signed_half (operands.Slot number) = None
signed_half (operands.Word word) = half_of word

abbrev pub negated_half : Operand → Option ℕ
negated_half (operands.Slot number) = None
negated_half (operands.Word word) = half_of (sub_of 0 word)

abbrev pub next_half : Operand → Option ℕ
next_half (operands.Slot number) = None
next_half (operands.Word word) = half_of (add_of word 1)

-- Returns the zero-extended immediate for a constant operand, if one exists.
abbrev pub low_half : Operand → Option ℕ
low_half (operands.Slot number) = None
low_half (operands.Word word) = if nat_lt word (2 ^ 16) then Some word else None

abbrev pub is_word : Operand → Bool
is_word (operands.Slot number) = false
is_word (operands.Word word) = true

abbrev pub is_zero_word : Operand → Bool
is_zero_word (operands.Slot number) = false
is_zero_word (operands.Word word) = word == 0

-- Returns true if the divisor is a constant by which the machine can divide every word: neither 0 nor -1.
abbrev pub is_plain_divisor : Operand → Bool
is_plain_divisor (operands.Slot number) = false
is_plain_divisor (operands.Word word) = not (word == 0) && not (word == 2 ^ 32 - 1)

-- Returns the shift amount of a constant operand: its word modulo 32.
abbrev pub shift_amount : Operand → Option ℕ
shift_amount (operands.Slot number) = None
shift_amount (operands.Word word) = Some (word % 32)

-- Returns the amount of the left shift that multiplies by an operand, if the operand is a constant power of two.
abbrev pub power_of : Operand → Option ℕ
power_of (operands.Slot number) = None
power_of (operands.Word word) =
    if 2 ^ count_trailing_zeros 32 word == word then Some (count_trailing_zeros 32 word) else None
