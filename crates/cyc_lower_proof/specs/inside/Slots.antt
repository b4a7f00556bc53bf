-- This file defines the slots of the locals of a function, by their types. Each local has as many slots as its value has words, in the
-- order of the indices of the locals. If every type has one word, then a local's slot is its index. The fields of a struct are laid out
-- by their types in the same way, and so are the globals of the plain program.
use Rattle.std.specs.Prelude.{ℕ, zero, suc, ◌+◌, ◌*◌, ◌/◌, List, [], ◌∷◌, ◌++◌, map, Option, Some, None, slice_get, unwrap_or}
use Rattle.cyc_words.specs.Word.{add_of}
use Rattle.cyc_types.specs.declared.typed.Kind.{Kind}
use Rattle.cyc_types.specs.declared.typed.Kind.TheVariants as kinds
use Rattle.cyc_types.specs.Types.{Ty, words_of}
use Rattle.cyc_types.specs.TypedTrees.{StructType, GlobalVariable}
use Rattle.cyc_meaning.specs.Values.{kind_of, bytes_of_kind}
use Rattle.cyc_meaning.specs.FrameCount.{words_of_all}

-- The first slot of the local with this index.
abbrev pub slot_in : List Ty → ℕ → ℕ
slot_in [] number = 0
slot_in (t ∷ ts) zero = 0
slot_in (t ∷ ts) (suc number) = words_of t + slot_in ts number

-- The first slots of consecutive locals from a slot on, ordered by the indices of the locals.
abbrev pub starts_from : (slot : ℕ) → List Ty → List ℕ
starts_from slot [] = []
starts_from slot (t ∷ ts) = slot ∷ starts_from (slot + words_of t) ts

abbrev pub global_types : List GlobalVariable → List Ty
global_types globals = map (λ (g : GlobalVariable). g.of_type) globals

-- The data that determine the layout of a function's slots. The layout is determined by the types of the locals and globals, and by the
-- structs. The layout also depends on the slots of the loop counters that fill the enclosing arrays, outermost first. The blocks that
-- raise exceptions come after the position `raises`. If the program may open lexical regions, a `try` stores the number of open lexical
-- regions at an offset after its handler record.
pub record Types : Type 0 where
  pub locals : List Ty
  pub structs : List StructType
  pub raises : ℕ
  pub counters : List ℕ
  pub globals : List Ty
  pub scopes : Option ℕ

-- The layout of a function's slots. The layout consists of the first slots of the locals, the slot after the locals that holds an
-- exception's tag, and the structs. The layout also has the slots of the loop counters of arrays, and the indices of the first words of
-- globals. The layout also has the position after which the blocks come that raise exceptions, and the offset at which a `try` stores the
-- number of open lexical regions.
pub record Starts : Type 0 where
  pub locals : List ℕ
  pub tag_slot : ℕ
  pub structs : List StructType
  pub raises : ℕ
  pub counters : List ℕ
  pub globals : List ℕ
  pub scopes : Option ℕ

abbrev pub starts_of : Types → Starts
starts_of types = record { locals = starts_from 0 types.locals; tag_slot = words_of_all types.locals; structs = types.structs; raises = types.raises; counters = types.counters; globals = starts_from 0 types.globals; scopes = types.scopes }

-- The layout of slots inside the elements of an array, whose loop counter is in this slot.
abbrev pub counted : Types → (slot : ℕ) → Types
counted types slot = record { locals = types.locals; structs = types.structs; raises = types.raises; counters = types.counters ++ slot ∷ []; globals = types.globals; scopes = types.scopes }

abbrev pub with_counter : Starts → (slot : ℕ) → Starts
with_counter starts slot = record { locals = starts.locals; tag_slot = starts.tag_slot; structs = starts.structs; raises = starts.raises; counters = starts.counters ++ slot ∷ []; globals = starts.globals; scopes = starts.scopes }

-- The offset of a cell that is laid out after `at` bytes and aligned for its representation kind (int, char, pointer, ..), as a wrapped
-- 32-bit word.
abbrev pub begins_word : Kind → (at : ℕ) → ℕ
begins_word kinds.Int at = add_of at 3 / 4 * 4
begins_word kinds.Char at = at
begins_word kinds.Nullable at = add_of at 3 / 4 * 4
begins_word kinds.NonNull at = add_of at 3 / 4 * 4
begins_word kinds.Fat at = add_of at 3 / 4 * 4
begins_word kinds.Handle at = add_of at 3 / 4 * 4
begins_word kinds.Key at = add_of at 3 / 4 * 4

-- The offset of the field of this index after the fields before it, as a wrapped 32-bit word. No program text has enough fields for the
-- offset to wrap.
abbrev pub field_from : (bytes : ℕ) → List Ty → (field : ℕ) → ℕ
field_from bytes [] field = bytes
field_from bytes (t ∷ ts) zero = begins_word (kind_of t) bytes
field_from bytes (t ∷ ts) (suc field) = field_from (add_of (begins_word (kind_of t) bytes) (bytes_of_kind (kind_of t))) ts field

abbrev pub field_in : Option StructType → (field : ℕ) → ℕ
field_in None field = 0
field_in (Some s) field = field_from 0 s.fields field

-- The offset of a field, given the index of its struct.
abbrev pub field_of : Starts → (number field : ℕ) → ℕ
field_of starts number field = field_in (slice_get starts.structs number) field

-- The first slot of the local with this index.
abbrev pub slot_of : Starts → (number : ℕ) → ℕ
slot_of starts number = unwrap_or (slice_get starts.locals number) 0

-- The slot of the loop counter that fills the array at this nesting level.
abbrev pub counter_of : Starts → (level : ℕ) → ℕ
counter_of starts level = unwrap_or (slice_get starts.counters level) 0

-- The index of the first word of the global with this index.
abbrev pub global_of : Starts → (number : ℕ) → ℕ
global_of starts number = unwrap_or (slice_get starts.globals number) 0
