-- This file defines the machine words of a value, and the bytes of a cell. Words are given by a function and a first index, so slots,
-- globals and the heap store are treated in the same way. A cell of an object is at an address. The relation between words and values does
-- not depend on the liveness of a pointer's target. A pointer keeps its words when its region is closed or its object is freed.
use Rattle.std.specs.Prelude.{◌≡◌, ◌⊎◌, ℕ, zero, suc, ◌+◌, ◌*◌, ◌%◌, ◌^◌, ◌<◌, ◌≤◌, List, [], ◌∷◌, length, Option, Some, None, slice_get}
use Rattle.cyc_words.specs.Bytes.{byte_in, word_of}
use Rattle.cyc_types.specs.declared.typed.Kind.{Kind}
use Rattle.cyc_types.specs.declared.typed.Kind.TheVariants as kinds
use Rattle.cyc_store.specs.State.{Memory}
use Rattle.cyc_meaning.specs.Values.{Value, Int, Null, Thin, Fat, Handle, Key, bytes_of_kind, begins, following, bytes_from, Cell}
use Rattle.cyc_memory_relation.specs.inside.Tables.{Placed, Tables}

-- ---- consecutive cells

-- the number of bytes of an object with cells of these representation kinds (int, char, pointer, ..), up to the end of the last cell
abbrev pub bytes_of_kinds : List Kind → ℕ
bytes_of_kinds ks = bytes_from 0 ks

-- The offset of the cell with index `offset`, if the cells are laid out after `at` bytes.
abbrev pub before_from : (at : ℕ) → (offset : ℕ) → List Kind → ℕ
before_from at offset [] = at
before_from at zero (kind ∷ ks) = begins kind at
before_from at (suc offset) (kind ∷ ks) = before_from (following kind at) offset ks

-- The number of bytes before the cell with index `offset`.
abbrev pub before : (offset : ℕ) → List Kind → ℕ
before offset ks = before_from 0 offset ks

-- ---- memory

-- the byte at an address
abbrev pub byte_at : Memory → (address : ℕ) → ℕ
byte_at memory address = byte_in (memory (word_of address)) (address % 4)

-- The words of memory from an address on, as a function of their index.
abbrev pub words_from : Memory → (address : ℕ) → ℕ → ℕ
words_from memory address = λ (k : ℕ). memory (address + 4 * k)

-- ---- pointers

-- Says that no object lies at address 0 or extends past the last address. Hence no pointer is 0, and no address of a cell wraps, even for
-- a freed object.
pub record InRange (address : ℕ) (ks : List Kind) : Type 0 where
  pub low : 0 < address
  pub high : address + bytes_of_kinds ks < 2 ^ 32

-- Says that a word is the address of this cell of the object.
pub record Points (t : Tables) (object offset word : ℕ) : Type 0 where
  pub address : ℕ
  pub kinds : List Kind
  pub row : slice_get t.rows object ≡ Some (Placed address kinds)
  pub range : InRange address kinds
  pub inside : offset < length kinds
  pub at : word ≡ address + before offset kinds

-- Says that a word is the address of the first of `count` cells from `start` on, all of one representation kind. If `count` is 0, the
-- word may be the address just after the object.
pub record IsPartOf (t : Tables) (object start count word : ℕ) : Type 0 where
  pub address : ℕ
  pub kinds : List Kind
  pub row : slice_get t.rows object ≡ Some (Placed address kinds)
  pub range : InRange address kinds
  pub kind : Kind
  pub even : (i : ℕ) → i < count → slice_get kinds (start + i) ≡ Some kind
  pub inside : start + count ≤ length kinds
  pub at : word ≡ address + before start kinds

-- ---- values

-- Says that the words from an index on represent a value of this representation kind (int, char, pointer, ..). A fat pointer has three
-- words: the address of the first cell that it can access, the length, and the index; all other values have one word. For a fat null
-- pointer the address and the length are 0, so no index is in bounds, and the index is arbitrary. The word of a char is below 256.
abbrev pub Is : Tables → Kind → Value → (words : ℕ → ℕ) → (place : ℕ) → Type 0
Is t kinds.Int (Int word) words place = words place ≡ word
Is t kinds.Char (Int word) words place = (words place ≡ word) × (word < 256)
Is t kinds.Nullable Null words place = words place ≡ 0
Is t kinds.Nullable (Thin object offset) words place = Points t object offset (words place)
Is t kinds.NonNull (Thin object offset) words place = Points t object offset (words place)
Is t kinds.Fat Null words place = (words place ≡ 0) × (words (place + 1) ≡ 0)
Is t kinds.Fat (Fat object start count index) words place =
    IsPartOf t object start count (words place) × (words (place + 1) ≡ count) × (words (place + 2) ≡ index)
Is t kinds.Handle (Handle region) words place = slice_get t.handles region ≡ Some (Some (words place))
Is t kinds.Key (Key region) words place = slice_get t.handles region ≡ Some (Some (words place))
Is t kind value words place = ⊥

-- ---- cells

-- Says that the cell of this representation kind at an address contains the value: its words, or the byte of a char.
abbrev pub Holds : Tables → Kind → Value → Memory → (address : ℕ) → Type 0
Holds t kinds.Int value memory address = Is t kinds.Int value (words_from memory address) 0
Holds t kinds.Char (Int byte) memory address = byte_at memory address ≡ byte
Holds t kinds.Char value memory address = ⊥
Holds t kinds.Nullable value memory address = Is t kinds.Nullable value (words_from memory address) 0
Holds t kinds.NonNull value memory address = Is t kinds.NonNull value (words_from memory address) 0
Holds t kinds.Fat value memory address = Is t kinds.Fat value (words_from memory address) 0
Holds t kinds.Handle value memory address = Is t kinds.Handle value (words_from memory address) 0
Holds t kinds.Key value memory address = Is t kinds.Key value (words_from memory address) 0

-- a cell without a value may contain any bytes
abbrev pub IsContent : Tables → Kind → Option Value → Memory → (address : ℕ) → Type 0
IsContent t kind None memory address = Unit {0}
IsContent t kind (Some value) memory address = Holds t kind value memory address

-- Says that an object's consecutive cells at an address, laid out after `at` bytes, contain the values that the
-- cells have in the source run.
abbrev pub AreCells : Tables → List Cell → Memory → (address at : ℕ) → Type 0
AreCells t [] memory address at = Unit {0}
AreCells t (c ∷ cells) memory address at =
    IsContent t c.kind c.content memory (address + begins c.kind at) × AreCells t cells memory address (following c.kind at)

-- Says that the byte at an address is not part of the cell at another address.
abbrev pub IsBeside : Kind → (cell address : ℕ) → Type 0
IsBeside kind cell address = (address < cell) ⊎ (cell + bytes_of_kind kind ≤ address)

-- cells without values
abbrev pub AreBlank : List Cell → Type 0
AreBlank [] = Unit {0}
AreBlank (c ∷ cells) = (c.content ≡ None) × AreBlank cells
