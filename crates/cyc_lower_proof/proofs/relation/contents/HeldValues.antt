-- This file says how slots and memory represent the state of a source run: values, objects, locals, globals and continuation frames.
use Rattle.std.proofs.Common.{◌≡◌, ℕ, suc, ◌+◌, ◌*◌, ◌≤◌, ◌<◌, true, List, [], ◌∷◌, ◌++◌, length, Option, None, Some, slice_get, false, Bool}
use Rattle.std.specs.Prelude.{◌==◌, ◌&&◌, nat_le, if◌then◌else◌}
use Rattle.cyc_types.specs.declared.typed.Kind.{Kind}
use Rattle.cyc_types.specs.declared.typed.Kind.TheVariants as kinds
use Rattle.cyc_store.specs.declared.range.TheConstants.{HEAP, UNIQUE}
use Rattle.cyc_memory_relation.specs.inside.Tables.{Row, Variable, Placed, Tables}
use Rattle.cyc_memory_relation.specs.inside.Words.{InRange, Is, before}
use Rattle.cyc_memory_relation.specs.inside.Related.{scopes}
use Rattle.cyc_plain.specs.declared.instruction.Operand.{Operand}
use Rattle.cyc_plain.specs.declared.instruction.Operand.TheVariants as operands
use Rattle.cyc_plain.specs.declared.instruction.Instruction.{Instruction}
use Rattle.cyc_plain.specs.inside.State.{Words}
use Rattle.cyc_plain.specs.inside.State as plain
use Rattle.cyc_plain.specs.inside.Memory.{slots_base, is_pinned}
use Rattle.cyc_meaning.specs.Values.{Fat, Value, Handle, Operand as Kinded, Cell, words_of_kind}
use Rattle.cyc_meaning.specs.State.{Owner, InRegion, Unique, Object, heap_number, ConvertTo, Operate, Chain, Apply, ApplyPointer, Follow, LoadFrom, Decide, Store, Pass, PlaceBy, BesideHandle}
use Rattle.cyc_meaning.specs.State.{MakePlain, MakeFields, MakeArray, FillElement, Initialise, Choose, Test, Return, Entry, Needs, NeedsPlace, Loop, CloseRegion, CloseLexical, Handler, Caller, Main}
use Rattle.cyc_meaning.specs.State.{Focus, Breaking, Continuing, Returning, FollowMember, TakeAddress, StoreTo, StoreCell, FreeObject, CloseByKey, SwapLeft, SwapRight, CountElements, Index, Advance}
use Rattle.cyc_meaning.specs.inside.Nesting.{lexicals_of}
use Rattle.cyc_lower_proof.specs.inside.Slots.{Types, starts_of, slot_of, global_of}
use Rattle.cyc_lower_proof.specs.inside.ValueCode.{variable_bytes}
use Rattle.cyc_lower_proof.specs.inside.ControlCode.{after_record_in}
use Rattle.cyc_lower_proof.proofs.slots.Widths.{HasRoom, HasGlobal, kind_in}
use Rattle.cyc_lower_proof.proofs.relation.places.Known.{IsGlobalRow}

-- ---- values in slots

-- Says that a word represents a value that is not a fat pointer.
abbrev pub IsWord : Tables → Kind → Value → (word : ℕ) → Type 0
IsWord t kinds.Fat v word = ⊥
IsWord t kind v word = Is t kind v (λ (i : ℕ). word) 0

-- true if the words of an operand represent the value
abbrev pub IsIn : Tables → Kinded → Words → Operand → Type 0
IsIn t v slots (operands.Slot n) = Is t v.kind v.value slots n
IsIn t v slots (operands.Word w) = IsWord t v.kind v.value w

-- Holds if an operand is a constant, or is in a slot up to slot t.
abbrev pub IsLow : Operand → (t : ℕ) → Type 0
IsLow (operands.Slot n) t = n ≤ t
IsLow (operands.Word w) t = Unit {0}

-- Holds if slots n and n + 1 contain the first two words of a fat pointer and slot m contains its index.
abbrev pub IsParts : Tables → Value → Words → (n m : ℕ) → Type 0
IsParts t v slots n m = Is t kinds.Fat v (λ j. if j == 0 then slots n else if j == 1 then slots (n + 1) else slots m) 0

abbrev pub words_held : List Kinded → ℕ
words_held [] = 0
words_held (v ∷ vs) = words_held vs + words_of_kind v.kind

-- The slot after the slots of a list of values; the last value of the list is in the first of these slots.
abbrev pub height : ℕ → List Kinded → ℕ
height base [] = base
height base (v ∷ vs) = height base vs + words_of_kind v.kind

abbrev pub Holds : Tables → Words → ℕ → List Kinded → Type 0
Holds t slots base [] = Unit {0}
Holds t slots base (v ∷ vs) = Is t v.kind v.value slots (height base vs) × Holds t slots base vs

-- Holds if the slots from `first` on hold the values in order.
abbrev pub HoldsFrom : Tables → Words → ℕ → List Kinded → Type 0
HoldsFrom t slots first [] = Unit {0}
HoldsFrom t slots first (v ∷ vs) = Is t v.kind v.value slots first × HoldsFrom t slots (first + words_of_kind v.kind) vs

-- The intermediate values that the continuation frames of the running call hold.
abbrev pub held : List Entry → List Kinded
held [] = []
held (Needs (ConvertTo from to target) ∷ k) = held k
held (Needs (Operate operator) ∷ k) = held k
held (Needs (Chain rest) ∷ k) = held k
held (Needs (Apply operator left) ∷ k) = left ∷ held k
held (Needs (ApplyPointer peek operator left) ∷ k) = left ∷ held k
held (Needs Decide ∷ k) = held k
held (Needs CountElements ∷ k) = held k
held (Needs (Store place) ∷ k) = held k
-- The address of the cell stays in a slot while the value to store is evaluated.
held (Needs (StoreCell peek place) ∷ k) = record { kind = kinds.NonNull; value = place } ∷ held k
held (Needs (Pass callee before rest) ∷ k) = before ++ held k
held (Needs (PlaceBy initial) ∷ k) = held k
-- The region handle stays in a slot while the initial values of the new object are evaluated.
held (Needs (BesideHandle region) ∷ k) = record { kind = kinds.Handle; value = Handle region } ∷ held k
held (Needs (MakePlain owner kind) ∷ k) = held k
held (Needs (MakeFields owner before fields) ∷ k) = before ++ held k
held (Needs (MakeArray owner level kind element) ∷ k) = held k
held (Needs (FillElement object count index level kind element) ∷ k) = record { kind = kinds.Fat; value = Fat object 0 count index } ∷ held k
held (Needs (Initialise number kind items) ∷ k) = []
held (Needs (Choose first second) ∷ k) = []
held (Needs (Test condition body) ∷ k) = []
held (Needs Return ∷ k) = []
held (Needs (Follow pointer target) ∷ k) = held k
held (Needs FreeObject ∷ k) = held k
held (Needs CloseByKey ∷ k) = held k
held (Needs (Index peek target index) ∷ k) = held k
held (Needs (Advance peek target base) ∷ k) = base ∷ held k
held (Needs (FollowMember pointer fields field) ∷ k) = held k
held (NeedsPlace (SwapLeft kind peek right) ∷ k) = []
held (NeedsPlace (SwapRight kind peek false left) ∷ k) = []
held (NeedsPlace (SwapRight kind peek true left) ∷ k) = record { kind = kinds.NonNull; value = left } ∷ []
held (NeedsPlace a ∷ k) = held k
held (entry ∷ k) = []

-- The intermediate values that are still in slots when a value is passed to the next evaluation step: all except a
-- region handle that only the new object needed.
abbrev pub kept : List Entry → List Kinded
kept (Needs (BesideHandle region) ∷ k) = kept k
kept k = held k

-- The slots of the loop counters with which the running call fills arrays, outermost first: each counter is in the
-- slot for the index of the pointer to its array.
abbrev pub counters_of : (base : ℕ) → List Entry → List ℕ
counters_of base [] = []
counters_of base (Needs (ConvertTo from to target) ∷ k) = counters_of base k
counters_of base (Needs (Operate operator) ∷ k) = counters_of base k
counters_of base (Needs (Chain rest) ∷ k) = counters_of base k
counters_of base (Needs (Apply operator left) ∷ k) = counters_of base k
counters_of base (Needs (ApplyPointer peek operator left) ∷ k) = counters_of base k
counters_of base (Needs Decide ∷ k) = counters_of base k
counters_of base (Needs CountElements ∷ k) = counters_of base k
counters_of base (Needs (Store place) ∷ k) = counters_of base k
counters_of base (Needs (StoreCell peek place) ∷ k) = counters_of base k
counters_of base (Needs (Pass callee before rest) ∷ k) = counters_of base k
counters_of base (Needs (PlaceBy initial) ∷ k) = counters_of base k
counters_of base (Needs (BesideHandle region) ∷ k) = counters_of base k
counters_of base (Needs (MakePlain owner kind) ∷ k) = counters_of base k
counters_of base (Needs (MakeFields owner before fields) ∷ k) = counters_of base k
counters_of base (Needs (MakeArray owner level kind element) ∷ k) = counters_of base k
counters_of base (Needs (FillElement object count index level kind element) ∷ k) = counters_of base k ++ (height base (held k) + 2) ∷ []
counters_of base (Needs (Follow pointer target) ∷ k) = counters_of base k
counters_of base (Needs (FollowMember pointer fields field) ∷ k) = counters_of base k
counters_of base (Needs FreeObject ∷ k) = counters_of base k
counters_of base (Needs CloseByKey ∷ k) = counters_of base k
counters_of base (Needs (Index peek target index) ∷ k) = counters_of base k
counters_of base (Needs (Advance peek target pointer) ∷ k) = counters_of base k
counters_of base (NeedsPlace (LoadFrom cell) ∷ k) = counters_of base k
counters_of base (NeedsPlace TakeAddress ∷ k) = counters_of base k
counters_of base (NeedsPlace (StoreTo peek c) ∷ k) = counters_of base k
counters_of base (entry ∷ k) = []

-- The number of arrays that the running call is filling.
abbrev pub arrays_in : List Entry → ℕ
arrays_in [] = 0
arrays_in (Needs (FillElement object count index level kind element) ∷ k) = suc (arrays_in k)
arrays_in (Caller e ∷ k) = 0
arrays_in (entry ∷ k) = arrays_in k

-- Holds if each array that is being filled has its loop counter under the array's nesting level, in the running call and all waiting calls.
abbrev pub AreCounted : (ℕ → Option ℕ) → List Entry → Type 0
AreCounted counters [] = Unit {0}
AreCounted counters (Needs (FillElement object count index level kind element) ∷ k) =
    ((level ≡ arrays_in k) × (level ≡ length (counters_of 0 k)) × (counters level ≡ Some index)) × AreCounted counters k
AreCounted counters (Caller e ∷ k) = AreCounted e.counters k
AreCounted counters (entry ∷ k) = AreCounted counters k

-- ---- new objects

-- Says that `handle` is the handle of the region in which an object with this owner (a region or a unique pointer) is allocated. The handle
-- is a constant, or it is in the slot before t if the newest continuation frame holds it.
abbrev pub IsHandleOf : Owner → (handle : Operand) → (t : ℕ) → List Entry → Type 0
IsHandleOf (InRegion region) (operands.Word n) t k = (region ≡ heap_number) × (n ≡ HEAP)
IsHandleOf (InRegion region) (operands.Slot n) t (Needs (BesideHandle beside) ∷ k) = (region ≡ beside) × (suc n ≡ t)
IsHandleOf (Unique true) (operands.Word n) t k = n ≡ UNIQUE
IsHandleOf owner handle t k = ⊥

-- Holds if `word` is the region handle with which objects of this owner (a region or a unique pointer) are allocated.
abbrev pub HasHandle : Tables → Owner → (word : ℕ) → Type 0
HasHandle t (InRegion region) word = slice_get t.handles region ≡ Some (Some word)
HasHandle t (Unique true) word = word ≡ UNIQUE
HasHandle t (Unique false) word = ⊥

-- A record of the facts about a new object: its cells have the representation kinds `kinds` (int, char,
-- pointer, ..), and they begin at the address `address`.
pub record IsObject (t : Tables) (object address : ℕ) (kinds : List Kind) : Type 0 where
  pub row : slice_get t.rows object ≡ Some (Placed address kinds)
  pub range : InRange address kinds
  pub some : 0 < length kinds

-- ---- objects and the words that represent them

abbrev pub with_kind : Kind → Option Value → Option Kinded
with_kind kind None = None
with_kind kind (Some v) = Some (record { kind = kind; value = v })

abbrev pub content_of_cell : Option Cell → Option Kinded
content_of_cell None = None
content_of_cell (Some c) = with_kind c.kind c.content

abbrev pub content_of : Option Object → Option Kinded
content_of None = None
content_of (Some x) = content_of_cell (slice_get x.cells 0)

-- The value of the variable whose object has this index in the list of objects.
abbrev pub contents : List Object → ℕ → Option Kinded
contents objects number = content_of (slice_get objects number)

-- The instructions of the function that a call executes, and the address of the first slot of the call.
pub record CallSlots : Type 0 where
  pub code : List Instruction
  pub base : ℕ

-- The row, in the table of objects, of a variable that is in the slots from `slot` on. The variable has an address if the code takes
-- its address. The address of a char is that of the last byte of its word.
abbrev pub row_of : CallSlots → (slot : ℕ) → Kind → Row
row_of s slot kind = if is_pinned s.code slot && nat_le slots_base s.base then Placed (s.base + 4 * slot + variable_bytes kind) (kind ∷ []) else Variable

-- Holds if the object with this index is a char that has an address.
abbrev pub IsCharAt : Tables → (object : ℕ) → Type 0
IsCharAt t object = (address : ℕ) × (slice_get t.rows object ≡ Some (Placed address (kinds.Char ∷ [])))

-- The facts about the row of a local in the table of objects: it has the representation kind (int, char, pointer, ..) of the local's type,
-- and its words fit in the local's slots.
pub record IsLocalRow (t : Tables) (types : Types) (s : CallSlots) (number object : ℕ) : Type 0 where
  pub kind : Kind
  pub room : HasRoom types number kind
  pub of_type : kind_in types.locals number ≡ kind
  pub row : slice_get t.rows object ≡ Some (row_of s (slot_of (starts_of types) number) kind)

-- The slots hold the locals of a call, which have these types, and whose objects have indices from `low` up to `high`. Each local has
-- enough slots, and these slots hold its value. If the local has an address, then its slots are the words of its object. A char with an
-- address has a word below 256 even before a value is stored, because a byte store does not change the word's other bytes.
pub record LocalsHold (t : Tables) (types : Types) (s : CallSlots) (objects : List Object) (locals : ℕ → Option ℕ) (low high : ℕ) (slots : Words) : Type 0 where
  pub within : (number object : ℕ) → locals number ≡ Some object → (number < length types.locals) × (low ≤ object) × (object < high)
  pub apart : (number other object : ℕ) → locals number ≡ Some object → locals other ≡ Some object → number ≡ other
  pub rows : (number object : ℕ) → locals number ≡ Some object → IsLocalRow t types s number object
  pub holds : (number object : ℕ) (v : Kinded) → locals number ≡ Some object → contents objects object ≡ Some v
      → Is t v.kind v.value slots (slot_of (starts_of types) number) × HasRoom types number v.kind
  pub small : (number object : ℕ) → locals number ≡ Some object → IsCharAt t object → slots (slot_of (starts_of types) number) < 256

-- The globals have the types in `types`, and each global has enough words and has its value in them. The words are those of the
-- object of the global. The word of a char is below 256.
abbrev pub GlobalsHold : Tables → Types → List Object → Words → Type 0
GlobalsHold t types objects words =
    (number : ℕ) → number < length types.globals
    → IsGlobalRow t types.globals number
    × ((v : Kinded) → contents objects number ≡ Some v → Is t v.kind v.value words (global_of (starts_of types) number) × HasGlobal types number v.kind)
    × (IsCharAt t number → words (global_of (starts_of types) number) < 256)

-- The first temporary of the running call, given the slot after its locals. Between the locals and the first temporary are that slot, the
-- handler records and the saved counts of open lexical regions.
abbrev pub after_records : List Entry → (scopes : Option ℕ) → (slot : ℕ) → ℕ
after_records [] scopes slot = slot + 1
after_records (Handler clauses ∷ k) scopes slot = after_record_in scopes (after_records k scopes slot)
after_records (CloseLexical region ∷ k) scopes slot = after_records k scopes slot + 1
after_records (Caller e ∷ k) scopes slot = slot + 1
after_records (Main ∷ k) scopes slot = slot + 1
after_records (entry ∷ k) scopes slot = after_records k scopes slot

-- The number of lexical regions that all active calls have open.
abbrev pub scopes_in : List Entry → ℕ
scopes_in k = length (lexicals_of k)

-- Holds if `many` lexical regions may be open: `many` is 0 if the program opens none.
abbrev pub MayBeOpen : (scopes : Option ℕ) → (many : ℕ) → Type 0
MayBeOpen None many = many ≡ 0
MayBeOpen (Some place) many = Unit {0}

-- A waiting call: its locals, its first temporary as a function of the end of its locals, and the values that it holds.
pub record Waiting : Type 0 where
  pub locals : ℕ → Option ℕ
  pub temporaries : Option ℕ → ℕ → ℕ
  pub values : List Kinded

abbrev pub callers : List Entry → List Waiting
callers [] = []
callers (Caller e ∷ k) = record { locals = e.locals; temporaries = after_records k; values = held k } ∷ callers k
callers (entry ∷ k) = callers k

-- Says that the property `P` holds of the newest open exception handler.
abbrev pub Newest : List plain.Handler → ((index first : ℕ) → Words → List plain.Handler → Type 0) → Type 0
Newest [] P = ⊥
Newest (plain.Caught ∷ handlers) P = ⊥
Newest (plain.Open index first contents ∷ handlers) P = P index first contents handlers

-- Says that the record of a handler is unchanged since the handler was opened.
abbrev pub IsIntact : Words → (first : ℕ) → (contents : Words) → Type 0
IsIntact slots first contents =
    (slots first ≡ contents 0) × (slots (first + 1) ≡ contents 1) × (slots (first + 2) ≡ contents 2) × (slots (first + 3) ≡ contents 3)

-- Holds if a slot saves the number of open lexical regions for a `try`.
abbrev pub IsKept : (scopes : Option ℕ) → Words → (slot many : ℕ) → Type 0
IsKept None slots slot many = Unit {0}
IsKept (Some place) slots slot many = slots slot ≡ many

-- The continuation frames that remain after a loop or the function is left. The exception handlers of these frames are the ones
-- that stay open.
abbrev pub left_by : (loop : Bool) → List Entry → List Entry
left_by loop [] = []
left_by loop (Loop condition body ∷ k) = if loop then k else left_by loop k
left_by loop (Caller e ∷ k) = Caller e ∷ k
left_by loop (Main ∷ k) = Main ∷ k
left_by loop (entry ∷ k) = left_by loop k

-- The continuation frames without the exception handlers that the plain program closes at once.
abbrev pub handling : Focus → List Entry → List Entry
handling Breaking k = left_by true k
handling Continuing k = left_by true k
handling (Returning v) k = left_by false k
handling focus k = k

-- The indices of the regions in which variables are declared, as far as continuation frames name these regions.
abbrev pub homes : List Entry → List ℕ
homes [] = []
homes (CloseRegion region home ∷ k) = region ∷ home ∷ homes k
homes (Caller e ∷ k) = e.home ∷ homes k
homes (entry ∷ k) = homes k
