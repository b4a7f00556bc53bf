-- Conversion of a value: the result is a value of the target cell's kind, or the exception that the conversion raises. The rules are
-- the Cyclone User's Manual's (1.0); that a conversion is always a check is this project's own choice.
use Rattle.std.specs.Prelude.{ℕ, ◌+◌, ◌%◌, nat_lt, if◌then◌else◌}
use Rattle.cyc_types.specs.declared.typed.Kind.{Kind}
use Rattle.cyc_types.specs.declared.typed.Kind.TheVariants as kinds
use Rattle.cyc_meaning.specs.Values.{Value, Int, Null, Thin, Fat, Handle, Key}
use Rattle.cyc_meaning.specs.Operators.{Result, Gives, Raises, Misfits, null_exception, array_bounds}

-- Converts a fat pointer to a thin pointer to the cell at its index. A negative index is a word of at least 2 ^ 31, and no
-- object has that many cells.
abbrev pub thinned : (object start count index : ℕ) → Result
thinned object start count index = if nat_lt index count then Gives (Thin object (start + index)) else Raises array_bounds

abbrev pub conversion : (to : Kind) → Value → Result
conversion kinds.Int (Int word) = Gives (Int word)
conversion kinds.Char (Int word) = Gives (Int (word % 256))
conversion kinds.Nullable Null = Gives Null
conversion kinds.Nullable (Thin object offset) = Gives (Thin object offset)
conversion kinds.Nullable (Fat object start count index) = thinned object start count index
conversion kinds.NonNull Null = Raises null_exception
conversion kinds.NonNull (Thin object offset) = Gives (Thin object offset)
conversion kinds.NonNull (Fat object start count index) = thinned object start count index
conversion kinds.Fat Null = Gives Null
conversion kinds.Fat (Thin object offset) = Gives (Fat object offset 1 0)
conversion kinds.Fat (Fat object start count index) = Gives (Fat object start count index)
conversion kinds.Handle (Handle region) = Gives (Handle region)
conversion kinds.Key (Key region) = Gives (Key region)
conversion to value = Misfits
