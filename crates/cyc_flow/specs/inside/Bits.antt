-- Returns true if the bit with this number is set in the word.
use Rattle.std.specs.Prelude.{ℕ, Bool, ◌==◌}
use Rattle.std.specs.Int.{bit_at}

abbrev pub has_bit : (word place : ℕ) → Bool
has_bit word place = bit_at word place == 1
