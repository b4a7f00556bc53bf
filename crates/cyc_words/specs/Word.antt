-- This file defines words of 32 bits. A word is a number below 2 ^ 32; its signed meaning is that of two's complement. The operations are
-- those of the MIPS32 architecture, volume II, defined on natural numbers.
use Rattle.std.specs.Prelude.{ℕ, ◌+◌, ◌-◌, ◌*◌, ◌/◌, ◌%◌, ◌^◌, ◌<◌, ℤ, pos, negsuc, int_div, int_rem, int_lt, nat_lt, if◌then◌else◌}
use Rattle.std.specs.Int.{w16, w32, cast_signed}

-- Says that a number fits in 32 bits.
abbrev pub IsWord : ℕ → Type 0
IsWord w = w < 2 ^ 32

-- the signed meaning of a word: the word if it is below 2 ^ 31, otherwise the word minus 2 ^ 32
abbrev pub signed : ℕ → ℤ
signed w = cast_signed w32 w

-- an integer wrapped to 32 bits: its remainder modulo 2 ^ 32 (`negsuc n` is -(n + 1))
abbrev pub unsigned : ℤ → ℕ
unsigned (pos n) = n % 2 ^ 32
unsigned (negsuc n) = 2 ^ 32 - 1 - n % 2 ^ 32

-- Says that a number is a halfword (16 bits). The next definitions are the signed meaning of a halfword and its sign extension to a word.
abbrev pub IsHalf : ℕ → Type 0
IsHalf h = h < 2 ^ 16

abbrev pub signed_half : ℕ → ℤ
signed_half h = cast_signed w16 h

unfoldable pub sign_extended : ℕ → ℕ
sign_extended h = unsigned (signed_half h)

-- the quotient of an integer and a positive number, rounded down
abbrev pub floor_div : ℤ → ℕ → ℤ
floor_div (pos n) d = pos (n / d)
floor_div (negsuc n) d = negsuc (n / d)

-- The sum of two words, wrapped. The next definitions are the difference (a + 2 ^ 32 - b, since `-` stops at 0) and the
-- product, both wrapped.
abbrev pub add_of : ℕ → ℕ → ℕ
add_of a b = (a + b) % 2 ^ 32

abbrev pub sub_of : ℕ → ℕ → ℕ
sub_of a b = (a + (2 ^ 32 - b)) % 2 ^ 32

abbrev pub mul_of : ℕ → ℕ → ℕ
mul_of a b = (a * b) % 2 ^ 32

-- Shifts of a word by k modulo 32: left, wrapped; right, shifting in zeros; right, shifting in the sign (the signed quotient rounded down).
abbrev pub shl_of : ℕ → ℕ → ℕ
shl_of a k = (a * 2 ^ (k % 32)) % 2 ^ 32

abbrev pub shr_of : ℕ → ℕ → ℕ
shr_of a k = a / 2 ^ (k % 32)

unfoldable pub sar_of : ℕ → ℕ → ℕ
sar_of a k = unsigned (floor_div (signed a) (2 ^ (k % 32)))

-- The comparison of two words as signed numbers: 1 if a is less than b, otherwise 0. The definition `sltu_of` compares two words as
-- unsigned numbers.
unfoldable pub slt_of : ℕ → ℕ → ℕ
slt_of a b = if int_lt (signed a) (signed b) then 1 else 0

abbrev pub sltu_of : ℕ → ℕ → ℕ
sltu_of a b = if nat_lt a b then 1 else 0

-- The quotient of two words as signed numbers, rounded toward zero. The definition `rem_of` is the remainder, which has the
-- dividend's sign.
unfoldable pub div_of : ℕ → ℕ → ℕ
div_of a b = unsigned (int_div (signed a) (signed b))

unfoldable pub rem_of : ℕ → ℕ → ℕ
rem_of a b = unsigned (int_rem (signed a) (signed b))
