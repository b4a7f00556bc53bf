-- Pointer arithmetic. (Fat pointers are the Cyclone User's Manual's, 1.0: a part of an object with its bounds, which are checked only on
-- access. Wrapping arithmetic and the order of the checks are this project's own choice.)
use Rattle.std.specs.Prelude.{ℕ, ◌+◌, ◌-◌, Bool, true, false, not, nat_lt, nat_le, if◌then◌else◌}
use Rattle.cyc_words.specs.Word.{add_of, sub_of}
use Rattle.cyc_types.specs.declared.typed.Kind.{Kind}
use Rattle.cyc_types.specs.declared.typed.Kind.TheVariants as kinds
use Rattle.cyc_types.specs.declared.typed.PointerOperator.{PointerOperator}
use Rattle.cyc_types.specs.declared.typed.PointerOperator.TheVariants as operators
use Rattle.cyc_meaning.specs.Values.{Value, Int, Null, Thin, Fat, is_kind, is_thin}
use Rattle.cyc_meaning.specs.Operators.{Result, Gives, Misfits, null_exception, array_bounds, truth}

-- ---- arithmetic

-- Pointer arithmetic changes only the index of a fat pointer, and leaves null unchanged.
abbrev pub moved : (ℕ → ℕ) → Value → Result
moved change Null = Gives Null
moved change (Fat object start count index) = Gives (Fat object start count (change index))
moved change value = Misfits

-- Returns the number of elements of a fat pointer from its index on: the length minus the index if the index is between 0 and the
-- length, otherwise 0. A negative index is a word of at least 2 ^ 31, and no object has that many cells.
abbrev pub element_count : Value → Result
element_count Null = Gives (Int 0)
element_count (Fat object start count index) = Gives (Int (if nat_le index count then count - index else 0))
element_count value = Misfits

-- ---- tests

abbrev pub null_test : (negated : Bool) → Value → Result
null_test negated Null = Gives (Int (truth (not negated)))
null_test negated (Thin object offset) = Gives (Int (truth negated))
null_test negated (Fat object start count index) = Gives (Int (truth negated))
null_test negated value = Misfits

-- Computes a pointer operator's result from the values of its operands. Comparing two thin pointers requires a look at the objects to which
-- they point, so the values of the pointers alone do not decide the result.
abbrev pub pointer_result : PointerOperator → (left right : Value) → Result
pointer_result operators.AddFat left (Int n) = moved (λ index. add_of index n) left
pointer_result operators.SubtractFat left (Int n) = moved (λ index. sub_of index n) left
pointer_result operators.ThinIsNull left Null = null_test false left
pointer_result operators.ThinIsNotNull left Null = null_test true left
pointer_result operators.FatIsNull left Null = null_test false left
pointer_result operators.FatIsNotNull left Null = null_test true left
pointer_result operators.NullIs Null right = null_test false right
pointer_result operators.NullIsNot Null right = null_test true right
pointer_result operator left right = Misfits

-- Returns the representation kind of a pointer operator's result: fat pointer for `AddFat` and `SubtractFat`, int for the
-- others. The definition after this one gives the kinds that the operator's left operand may have.
abbrev pub result_kind : PointerOperator → Kind
result_kind operators.AddFat = kinds.Fat
result_kind operators.SubtractFat = kinds.Fat
result_kind operator = kinds.Int

abbrev pub takes_kind : PointerOperator → Kind → Bool
takes_kind operators.AddFat kind = is_kind kind kinds.Fat
takes_kind operators.SubtractFat kind = is_kind kind kinds.Fat
takes_kind operators.FatIsNull kind = is_kind kind kinds.Fat
takes_kind operators.FatIsNotNull kind = is_kind kind kinds.Fat
takes_kind operator kind = is_thin kind

-- ---- the cell that a pointer leads to

pub data Reach : Type 0 where
  At : (object offset : ℕ) → Reach
  -- The access raises the exception with the given tag.
  Stops : (tag : ℕ) → Reach
  Nowhere : Reach

-- Checks an access through a pointer: an access through null raises an exception. An access through a fat pointer also raises an exception
-- if its index is negative or at least the length.
abbrev pub followed : Value → Reach
followed Null = Stops null_exception
followed (Thin object offset) = At object offset
followed (Fat object start count index) = if nat_lt index count then At object (start + index) else Stops array_bounds
followed value = Nowhere
