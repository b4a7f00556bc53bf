-- Values, the cells that contain them, and the operands (values with their representation kind) that wait for their use. Pointers
-- contain no addresses: a pointer names an object by its index. The kinds of values and the three words of a fat pointer are the
-- Cyclone User's Manual's (1.0); the form is this project's own choice.
use Rattle.std.specs.Prelude.{ℕ, ◌+◌, ◌*◌, ◌/◌, ◌==◌, ◌&&◌, Bool, true, false, max, List, [], ◌∷◌, map, Option, None}
use Rattle.cyc_types.specs.declared.typed.Kind.{Kind}
use Rattle.cyc_types.specs.declared.typed.Kind.TheVariants as kinds
use Rattle.cyc_syntax.specs.declared.tree.PointerKind.{PointerKind}
use Rattle.cyc_syntax.specs.declared.tree.PointerKind.TheVariants as marks
use Rattle.cyc_types.specs.Types.{Ty}
use Rattle.cyc_types.specs.Types as types

pub data Value : Type 0 where
  -- An int or a char is a word of 32 bits, read as a signed number in two's complement. The word of a char is below 256.
  Int : (word : ℕ) → Value
  -- The null pointer, of any kind of pointer.
  Null : Value
  -- A thin pointer to a cell of an object.
  Thin : (object offset : ℕ) → Value
  -- A fat pointer to a part of an object: its first cell, its number of cells, and the index into the part. The index is a word, as an
  -- int is.
  Fat : (object start count index : ℕ) → Value
  -- The handle of the region with the given index, or the key of a dynamic region with that index.
  Handle : (region : ℕ) → Value
  Key : (region : ℕ) → Value

-- A value that waits for its use. A waiting value has the kind of the expression that computed it, which determines its number of words.
-- A fat null pointer has three words, a thin one has one.
pub record Operand : Type 0 where
  pub kind : Kind
  pub value : Value

-- ---- kinds

abbrev pub kind_of_mark : PointerKind → Kind
kind_of_mark marks.Nullable = kinds.Nullable
kind_of_mark marks.NonNull = kinds.NonNull
kind_of_mark marks.Fat = kinds.Fat

-- Returns the representation kind (int, char, pointer, ..) of a cell of the given type. No cell has a
-- struct type: a struct is a block of cells.
abbrev pub kind_of : Ty → Kind
kind_of types.Int = kinds.Int
kind_of types.Char = kinds.Char
kind_of (types.Pointer mark target region) = kind_of_mark mark
kind_of (types.Handle region) = kinds.Handle
kind_of (types.Key region) = kinds.Key
kind_of (types.Struct number regions) = kinds.Int

-- Returns the number that identifies a representation kind (int, char, pointer, ..); two representation kinds are
-- compared by these numbers.
abbrev pub number_of_kind : Kind → ℕ
number_of_kind kinds.Int = 0
number_of_kind kinds.Nullable = 1
number_of_kind kinds.NonNull = 2
number_of_kind kinds.Fat = 3
number_of_kind kinds.Handle = 4
number_of_kind kinds.Key = 5
number_of_kind kinds.Char = 6

abbrev pub is_kind : Kind → Kind → Bool
is_kind a b = number_of_kind a == number_of_kind b

abbrev pub are_kinds : List Kind → List Kind → Bool
are_kinds [] [] = true
are_kinds (a ∷ as') (b ∷ bs) = is_kind a b && are_kinds as' bs
are_kinds as' bs = false

-- Returns true for the kind of a thin pointer, nullable or not.
abbrev pub is_thin : Kind → Bool
is_thin kinds.Nullable = true
is_thin kinds.NonNull = true
is_thin kind = false

-- Returns the number of words of an operand: three for a fat pointer, otherwise one.
abbrev pub words_of_kind : Kind → ℕ
words_of_kind kinds.Int = 1
words_of_kind kinds.Char = 1
words_of_kind kinds.Nullable = 1
words_of_kind kinds.NonNull = 1
words_of_kind kinds.Fat = 3
words_of_kind kinds.Handle = 1
words_of_kind kinds.Key = 1

-- ---- cells

-- A memory cell has a fixed representation kind (int, char, pointer, ..), and holds a value or nothing yet.
pub record Cell : Type 0 where
  pub kind : Kind
  pub content : Option Value

abbrev pub kinds_of : List Cell → List Kind
kinds_of cells = map (λ (c : Cell). c.kind) cells

-- Returns a cell of the given kind without a value.
abbrev pub blank : Kind → Cell
blank kind = record { kind = kind; content = None }

-- Returns the number of bytes of a cell: a char has one.
abbrev pub bytes_of_kind : Kind → ℕ
bytes_of_kind kinds.Int = 4
bytes_of_kind kinds.Char = 1
bytes_of_kind kinds.Nullable = 4
bytes_of_kind kinds.NonNull = 4
bytes_of_kind kinds.Fat = 12
bytes_of_kind kinds.Handle = 4
bytes_of_kind kinds.Key = 4

-- Returns the offset of a cell that is laid out after `at` bytes: a char is at that offset, and any other cell is
-- at the next multiple of 4.
abbrev pub begins : Kind → (at : ℕ) → ℕ
begins kinds.Int at = 4 * ((at + 3) / 4)
begins kinds.Char at = at
begins kinds.Nullable at = 4 * ((at + 3) / 4)
begins kinds.NonNull at = 4 * ((at + 3) / 4)
begins kinds.Fat at = 4 * ((at + 3) / 4)
begins kinds.Handle at = 4 * ((at + 3) / 4)
begins kinds.Key at = 4 * ((at + 3) / 4)

-- Returns the offset just after a cell that is laid out after `at` bytes.
abbrev pub following : Kind → (at : ℕ) → ℕ
following kind at = begins kind at + bytes_of_kind kind

-- Returns the number of bytes up to the end of cells of the given kinds, laid out after `at` bytes.
abbrev pub bytes_from : (at : ℕ) → List Kind → ℕ
bytes_from at [] = at
bytes_from at (kind ∷ ks) = bytes_from (following kind at) ks

-- Returns the number of words that contain the given number of bytes.
abbrev pub words_for : (bytes : ℕ) → ℕ
words_for bytes = (bytes + 3) / 4

-- Returns the number of words of a block with the given cells: at least one.
abbrev pub block_size : List Cell → ℕ
block_size cells = max 1 (words_for (bytes_from 0 (kinds_of cells)))
