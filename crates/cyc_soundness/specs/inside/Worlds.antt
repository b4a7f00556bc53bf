-- This file defines the typing of a heap state (regions and objects): the facts about each object that was ever created, which stay true
-- for ever. Values are typed by these facts, not by which regions are open. A pointer keeps its type when its region closes; the proof that
-- it may be dereferenced is made at the dereference.
use Rattle.std.specs.Prelude.{◌≡◌, ◌≢◌, ℕ, zero, suc, ◌+◌, ◌<◌, ◌≤◌, Bool, true, false, List, [], ◌∷◌, length, Option, Some, None, slice_get, ◌==◌, nat_lt, if◌then◌else◌}
use Rattle.cyc_syntax.specs.declared.tree.PointerKind.TheVariants as marks
use Rattle.cyc_types.specs.declared.region.Region.{Region as NamedRegion}
use Rattle.cyc_types.specs.declared.typed.Kind.TheVariants as kinds
use Rattle.cyc_types.specs.Outlives.{RegionContext, OutlivesIn}
use Rattle.cyc_meaning.specs.Values.{Operand, Cell}
use Rattle.cyc_meaning.specs.Values as values
use Rattle.cyc_meaning.specs.Operators.{Result, Gives, Raises, Misfits}
use Rattle.cyc_meaning.specs.State.{Dynamic, Region, Owner, InRegion, Unique, Object, heap_number, globals_number, is_open}
pub use Rattle.cyc_soundness.specs.inside.Lives.{Thing, KeyOf, PointerTo}
use Rattle.cyc_soundness.specs.inside.Lives.{Life, OfRegion, Owned, Kept, heap_life, RunTy, Int, Char, Pointer, Handle, Key, Struct, RunValue, Void, Null, Value, Seen, Into, Lives, kind_at}

pub data IsAmong {A : Type 0} (a : A) : List A → Type 0 where
  first : (as' : List A) → IsAmong a (a ∷ as')
  later : (b : A) (as' : List A) → IsAmong a as' → IsAmong a (b ∷ as')

-- The local of which this object is the variable, given by its index and by how many calls on the call stack enclose its call.
pub data Slot : Type 0 where
  NoLocal : Slot
  OfLocal : (depth number : ℕ) → Slot

pub record ObjectType : Type 0 where
  pub cells : List RunTy
  pub life : Life
  -- True if no pointer may point to the object.
  pub is_hidden : Bool
  pub slot : Slot

-- the holder of a resource: the operand, cell or loan that owns a key or a unique pointer
pub data Holder : Type 0 where
  -- no usable holder
  Nobody : Holder
  -- The holder that owns the resource is the operand on the stack above this many other operands.
  Hand : ℕ → Holder
  -- The holder that owns the resource is the cell at this offset of an object.
  At : (object offset : ℕ) → Holder
  -- The holder that owns the resource is a loan of this variable, which began after this many other loans.
  Lent : (before object : ℕ) → Holder

-- States if a variable holds its value, has lost it, or has lent it.
pub data Standing : Type 0 where
  Gone : Standing
  Here : Standing
  -- The value of the variable is lent to the end of a block; this many other loans began before.
  Away : (before : ℕ) → Standing

-- States if a swap is between its two writes, and which cell it must still write.
pub data Pending : Type 0 where
  Settled : Pending
  Awaits : (object offset : ℕ) → Pending

pub record Typing : Type 0 where
  -- The type of each object, given the number that identifies the object.
  pub objects : List ObjectType
  -- For each object, how many of its leading cells hold values; a cell that holds a value holds one for ever.
  pub filled : List ℕ
  -- the types of a struct's cells, given the struct's index and the lifetimes of its region parameters
  pub fields : ℕ → List Life → Option (List RunTy)
  -- the numbers that identify the dynamic regions
  pub kept : List ℕ
  -- The facts about the current state: the owner of each resource (key or unique pointer), the state of each variable, the depth of
  -- calls, and the number of loans.
  pub own : Thing → Holder
  pub here : (object : ℕ) → Standing
  pub pending : Pending
  pub depth : ℕ
  pub loans : ℕ

-- Says that a region variable may denote this lifetime; a dynamic region must be one that the typing of the heap state lists.
abbrev pub IsKnownLife : Typing → Life → Type 0
IsKnownLife g (Kept (KeyOf region)) = IsAmong region g.kept
IsKnownLife g Owned = ⊥
IsKnownLife g l = Unit {0}

-- Says that an object may have this lifetime.
abbrev pub IsKnownOwner : Typing → Life → Type 0
IsKnownOwner g (Kept (KeyOf region)) = IsAmong region g.kept
IsKnownOwner g l = Unit {0}

-- Says that at least `count` leading cells of an object hold values.
abbrev pub IsFilled : Typing → (object count : ℕ) → Type 0
IsFilled g object count = (filled : ℕ) × (slice_get g.filled object ≡ Some filled) × (count ≤ filled)

-- Says that a variable holds a value.
abbrev pub IsFull : Typing → (object : ℕ) → Type 0
IsFull g object = IsFilled g object 1

-- the type of an object with one cell
abbrev pub variable_type : RunTy → Life → (is_hidden : Bool) → Slot → ObjectType
variable_type t life hidden slot = record { cells = t ∷ []; life = life; is_hidden = hidden; slot = slot }

abbrev pub global_life : Life
global_life = OfRegion globals_number [] (λ a. false)

abbrev pub global_type : RunTy → ObjectType
global_type t = variable_type t global_life false NoLocal

-- Says that the first list is a suffix of the second list.
pub data IsEndOf (ms : List ℕ) : List ℕ → Type 0 where
  whole : IsEndOf ms ms
  following : (n : ℕ) (ns : List ℕ) → IsEndOf ms ns → IsEndOf ms (n ∷ ns)

-- Says that the first lifetime lasts at least as long as the second. The heap and the globals last for ever. A region that was open
-- when a scope began lasts to the scope's end, and so does each loan that had begun before the scope. A unique pointer may point to
-- any unique object.
pub data Outlasts : Life → Life → Type 0 where
  alike : (l : Life) → Outlasts l l
  heap : (l : Life) → Outlasts heap_life l
  globals : (l : Life) → Outlasts global_life l
  stays : (a : Thing) (n : ℕ) (ns : List ℕ) (lent : Thing → Bool) → lent a ≡ true → Outlasts (Kept a) (OfRegion n ns lent)
  borrows : (object : ℕ) → Outlasts (Kept (PointerTo object)) Owned
  encloses : (m n : ℕ) (ms ns : List ℕ) (us vs : Thing → Bool) → IsEndOf (m ∷ ms) ns → ((a : Thing) → us a ≡ true → vs a ≡ true) → Outlasts (OfRegion m ms us) (OfRegion n ns vs)

-- Says that the outlives constraints hold between the lifetimes that the regions denote.
abbrev pub AgreesWith : RegionContext → Lives → Type 0
AgreesWith c n = (a b : NamedRegion) → OutlivesIn c a b → Outlasts (n a) (n b)

-- ---- values

-- Says that at this cell, an object of this type contains a value of the given type, or a struct, which is the complete object.
abbrev pub IsPart : Typing → (object : ℕ) → ObjectType → RunTy → (offset : ℕ) → Type 0
IsPart g object x (Struct n ls) offset = (offset ≡ 0) × (g.fields n ls ≡ Some x.cells) × IsFilled g object (length x.cells)
IsPart g object x t offset = (slice_get x.cells offset ≡ Some t) × IsFilled g object (suc offset)

-- The lifetime of a pointer's target object, given the lifetime that the pointer's type states. A lifetime of unique objects becomes
-- that of the unique object that `object` identifies; any other lifetime stays unchanged.
abbrev pub life_at : (object : ℕ) → Life → Life
life_at object Owned = Kept (PointerTo object)
life_at object l = l

-- Says that a pointer of this type may point to this cell.
abbrev pub IsTarget : Typing → RunTy → Life → (object offset : ℕ) → Type 0
IsTarget g t l object offset =
    (x : ObjectType) × (slice_get g.objects object ≡ Some x) × (x.is_hidden ≡ false) × Outlasts (life_at object x.life) l × IsPart g object x t offset

-- Says that the region identified by this number has this lifetime.
abbrev pub IsNumber : Life → (region : ℕ) → Type 0
IsNumber (OfRegion number around lent) region = number ≡ region
IsNumber (Kept (KeyOf number)) region = number ≡ region
IsNumber l region = ⊥

-- Says that a lifetime is that of the key of the dynamic region with this number.
abbrev pub IsKeyOf : Life → (region : ℕ) → Type 0
IsKeyOf (Kept (KeyOf number)) region = number ≡ region
IsKeyOf l region = ⊥

-- Says that a value has this run-time type.
abbrev pub HasType : Typing → RunTy → values.Value → Type 0
HasType g Int (values.Int word) = Unit {0}
HasType g Char (values.Int word) = Unit {0}
HasType g (Pointer marks.Nullable t l) values.Null = Unit {0}
HasType g (Pointer marks.Nullable t l) (values.Thin object offset) = IsTarget g t l object offset
HasType g (Pointer marks.NonNull t l) (values.Thin object offset) = IsTarget g t l object offset
HasType g (Pointer marks.Fat t l) values.Null = Unit {0}
HasType g (Pointer marks.Fat t l) (values.Fat object start count index) = (i : ℕ) → i < count → IsTarget g t l object (start + i)
HasType g (Handle l) (values.Handle region) = IsNumber l region
HasType g (Key l) (values.Key region) = IsKeyOf l region
HasType g t value = ⊥

-- Says that an operand is a value of this run-time type.
abbrev pub IsResult : Typing → RunValue → Operand → Type 0
IsResult g Void v = Unit {0}
IsResult g Null v = (v.kind ≡ kinds.Nullable) × (v.value ≡ values.Null)
IsResult g (Value t) v = (v.kind ≡ kind_at t) × HasType g t v.value
IsResult g (Seen object t) v = (v.kind ≡ kind_at t) × HasType g t v.value
IsResult g (Into peek t) v = (v.kind ≡ kind_at t) × HasType g t v.value

-- Says that the result of a computation is a value of this type or an exception.
abbrev pub Fits : Typing → RunTy → Result → Type 0
Fits g t (Gives v) = HasType g t v
Fits g t (Raises tag) = Unit {0}
Fits g t Misfits = ⊥

-- Says that each stored operand has its type.
abbrev pub AreOperands : Typing → List RunTy → List Operand → Type 0
AreOperands g [] [] = Unit {0}
AreOperands g [] (v ∷ vs) = ⊥
AreOperands g (t ∷ ts) [] = ⊥
AreOperands g (t ∷ ts) (v ∷ vs) = IsResult g (Value t) v × AreOperands g ts vs

-- ---- objects

-- Says that a cell is empty only if it is not known to hold a value.
abbrev pub IsContent : Typing → (full : Bool) → RunTy → Option values.Value → Type 0
IsContent g full t None = full ≡ false
IsContent g full t (Some v) = HasType g t v

abbrev pub IsCell : Typing → (full : Bool) → RunTy → Cell → Type 0
IsCell g full t c = (c.kind ≡ kind_at t) × IsContent g full t c.content

-- Says that cells have these types, and that the first `filled` of them hold values.
abbrev pub AreCells : Typing → List RunTy → List Cell → (filled : ℕ) → Type 0
AreCells g [] [] n = Unit {0}
AreCells g [] (c ∷ cs) n = ⊥
AreCells g (t ∷ ts) [] n = ⊥
AreCells g (t ∷ ts) (c ∷ cs) zero = IsCell g false t c × AreCells g ts cs zero
AreCells g (t ∷ ts) (c ∷ cs) (suc n) = IsCell g true t c × AreCells g ts cs n

-- Says that an object with this lifetime is in the lifetime's region, or is a unique object, which exists while its pointer has an owner.
abbrev pub IsOwner : Life → Owner → Type 0
IsOwner (OfRegion region around lent) (InRegion number) = region ≡ number
IsOwner Owned (Unique live) = Unit {0}
IsOwner (Kept (KeyOf region)) (InRegion number) = region ≡ number
IsOwner l o = ⊥

-- Says that a new object with this lifetime is in this region or is a unique object; a new unique object is live.
abbrev pub IsNewOwner : Life → Owner → Type 0
IsNewOwner l (Unique false) = ⊥
IsNewOwner l (Unique true) = IsOwner l (Unique true)
IsNewOwner l (InRegion number) = IsOwner l (InRegion number)

-- Says that a type is not the type of a dynamic region's key; cells to which pointers may point contain no key of a dynamic region.
abbrev pub IsKeyless : RunTy → Type 0
IsKeyless (Key (Kept (KeyOf region))) = ⊥
IsKeyless t = Unit {0}

abbrev pub AreKeyless : List RunTy → Type 0
AreKeyless [] = Unit {0}
AreKeyless (t ∷ ts) = IsKeyless t × AreKeyless ts

-- Says that no value of this type is a linear resource.
abbrev pub IsPlain : RunTy → Type 0
IsPlain (Key (Kept (KeyOf region))) = ⊥
IsPlain (Pointer k t Owned) = ⊥
IsPlain t = Unit {0}

pub record IsObject (g : Typing) (filled : ℕ) (t : ObjectType) (x : Object) : Type 0 where
  pub owner : IsOwner t.life x.owner
  pub known : IsKnownOwner g t.life
  pub keyless : t.is_hidden ≡ false → AreKeyless t.cells
  pub cells : AreCells g t.cells x.cells filled

-- ---- linear resources

abbrev pub IsHeld : Holder → Type 0
IsHeld Nobody = ⊥
IsHeld h = Unit {0}

abbrev pub key_at : Life → Option Thing
key_at (Kept (KeyOf region)) = Some (KeyOf region)
key_at l = None

abbrev pub pointer_at : Life → (object : ℕ) → Option Thing
pointer_at Owned object = Some (PointerTo object)
pointer_at l object = None

-- The linear resource that a value of this type represents, if any.
abbrev pub thing_of : RunTy → values.Value → Option Thing
thing_of (Key l) v = key_at l
thing_of (Pointer k t l) (values.Thin object offset) = pointer_at l object
thing_of (Pointer k t l) (values.Fat object start count index) = pointer_at l object
thing_of t v = None

-- Says that a resource (key or unique pointer), if one is given, is owned by this holder (an operand, cell or loan).
abbrev pub Owns : (own : Thing → Holder) → Holder → Option Thing → Type 0
Owns own h None = Unit {0}
Owns own h (Some a) = own a ≡ h

-- Says that a unique pointer points to the first cell of its object.
abbrev pub AtStart : Life → (start index : ℕ) → Type 0
AtStart Owned start index = (start ≡ 0) × (index ≡ 0)
AtStart l start index = Unit {0}

abbrev pub IsStart : RunTy → values.Value → Type 0
IsStart (Pointer k t l) (values.Thin object offset) = AtStart l offset 0
IsStart (Pointer k t l) (values.Fat object start count index) = AtStart l start index
IsStart t v = Unit {0}

-- Says that this operand, cell or loan owns the resource that a value represents, if any. A unique pointer must point to its
-- object's start.
abbrev pub Claims : (own : Thing → Holder) → Holder → RunTy → values.Value → Type 0
Claims own h t v = Owns own h (thing_of t v) × IsStart t v

-- true if two given resources (keys or unique pointers) are equal
abbrev pub same_thing : Thing → Thing → Bool
same_thing (KeyOf m) (KeyOf n) = m == n
same_thing (PointerTo m) (PointerTo n) = m == n
same_thing a b = false

abbrev pub given : Option Thing → Holder → (Thing → Holder) → Thing → Holder
given None h own = own
given (Some a) h own = λ b. if same_thing b a then h else own b

abbrev pub giving : Typing → Option Thing → Holder → Typing
giving g o h = record g { own = given o h g.own }

-- Changes the standing of one variable, which states if the variable holds its value, has lost it, or has lent it.
abbrev pub marked : (object : ℕ) → Standing → (ℕ → Standing) → ℕ → Standing
marked object b here = λ n. if n == object then b else here n

abbrev pub handing : Typing → Option Thing → Holder → (object : ℕ) → Standing → Typing
handing g o h object b = record g { own = given o h g.own; here = marked object b g.here }

-- Says that an object is the variable of this local, in a call that `depth` other calls enclose on the call stack.
abbrev pub IsSlot : Typing → (depth number object : ℕ) → Type 0
IsSlot g d n object = (x : ObjectType) × (slice_get g.objects object ≡ Some x) × (x.slot ≡ OfLocal d n)

-- Says that the variable of this local holds its own value, which is neither moved nor lent.
abbrev pub IsHere : Typing → (depth number object : ℕ) → Type 0
IsHere g d n object = (g.here object ≡ Here) × IsSlot g d n object

-- States if pointers may point to an object.
abbrev pub IsHiding : Typing → (object : ℕ) → (is_hidden : Bool) → Type 0
IsHiding g object hidden = (x : ObjectType) × (slice_get g.objects object ≡ Some x) × (x.is_hidden ≡ hidden)

-- Says that a resource (key or unique pointer), if one is given, is owned by the local with this number, and that no pointer
-- points to this local's variable.
abbrev pub IsLookedAt : Typing → (number : ℕ) → Option Thing → Type 0
IsLookedAt g n None = Unit {0}
IsLookedAt g n (Some a) = (object : ℕ) × IsHere g g.depth n object × IsHiding g object true × (g.own a ≡ At object 0)

-- Says that the local that was peeked at (read without a move) owns a resource. Without a peek, an
-- operand on the stack owns the resource (key or unique pointer).
abbrev pub ClaimsPart : Typing → (hand : ℕ) → (peek : Option ℕ) → Option Thing → Type 0
ClaimsPart g i None o = Owns g.own (Hand i) o
ClaimsPart g i (Some n) o = IsLookedAt g n o

-- Says that a resource (key or unique pointer), if one is given, is owned by some operand, cell or loan.
abbrev pub IsHad : Typing → Option Thing → Type 0
IsHad g None = Unit {0}
IsHad g (Some a) = IsHeld (g.own a)

abbrev pub ClaimsBy : Typing → (hand : ℕ) → RunValue → values.Value → Type 0
ClaimsBy g i (Value t) v = Claims g.own (Hand i) t v
ClaimsBy g i (Seen object t) v = Owns g.own (At object 0) (thing_of t v)
ClaimsBy g i (Into peek t) v = ClaimsPart g i peek (thing_of t v)
ClaimsBy g i r v = Unit {0}

-- The resource (key or unique pointer) that a value represents when the value is passed out of the call that
-- computed it. A value that is passed out of a call is never a peek (a read that does not move).
abbrev pub ClaimsAlone : (own : Thing → Holder) → (hand : ℕ) → RunValue → values.Value → Type 0
ClaimsAlone own i (Value t) v = Claims own (Hand i) t v
ClaimsAlone own i (Seen object t) v = ⊥
ClaimsAlone own i (Into peek t) v = ⊥
ClaimsAlone own i r v = Unit {0}

-- Says that a cell owns the resource of the value stored in it; a variable to which no pointer may point may have moved or lent its value.
abbrev pub IsKept : Typing → (object offset : ℕ) → (is_hidden : Bool) → Type 0
IsKept g object offset hidden = (hidden ≡ true → g.here object ≡ Here) × (g.pending ≢ Awaits object offset)

abbrev pub AreOwned : Typing → (object : ℕ) → ObjectType → List Cell → Type 0
AreOwned g object y cs = (i : ℕ) (t : RunTy) (c : Cell) (v : values.Value) → IsKept g object i y.is_hidden → slice_get y.cells i ≡ Some t → slice_get cs i ≡ Some c → c.content ≡ Some v → Claims g.own (At object i) t v

-- Says that a value that is lent is still stored in its variable, to which no pointer may point.
abbrev pub AreLent : Typing → (object : ℕ) → ObjectType → List Cell → Type 0
AreLent g object y cs = (i j : ℕ) (t : RunTy) (c : Cell) (v : values.Value) → g.here object ≡ Away j → y.is_hidden ≡ true → slice_get y.cells i ≡ Some t → slice_get cs i ≡ Some c → c.content ≡ Some v → Claims g.own (Lent j object) t v

-- Says that a region exists, is dynamic and is open.
abbrev pub IsDynamic : Option Region → Type 0
IsDynamic None = ⊥
IsDynamic (Some r) = (r.sort ≡ Dynamic) × (r.is_open ≡ true)

-- Says that an object is unique and has not been freed.
abbrev pub IsUniqueObject : Typing → List Object → (object : ℕ) → Type 0
IsUniqueObject g objects object = (t : ObjectType) × (x : Object) × (slice_get g.objects object ≡ Some t) × (t.life ≡ Owned) × (slice_get objects object ≡ Some x) × (x.owner ≡ Unique true)

-- Says that each object has the type that the typing records for it, and that no objects exist without a recorded type. The heap
-- region is open. Dynamic regions whose key has an owner are open, and unique objects whose pointer has an owner are live.
pub record IsTyped (g : Typing) (regions : List Region) (objects : List Object) : Type 0 where
  pub count : length objects ≡ length g.objects
  pub counts : length objects ≡ length g.filled
  pub each : (number : ℕ) (t : ObjectType) → slice_get g.objects number ≡ Some t
      → (x : Object) × (filled : ℕ) × (slice_get objects number ≡ Some x) × (slice_get g.filled number ≡ Some filled) × IsObject g filled t x
  pub heap : is_open (slice_get regions heap_number) ≡ true
  pub kept : (number : ℕ) → IsAmong number g.kept → (1 < number) × (IsHeld (g.own (KeyOf number)) → IsDynamic (slice_get regions number))
  pub fresh : (number : ℕ) → length regions ≤ number → g.own (KeyOf number) ≡ Nobody
  pub unique : (object : ℕ) → IsHeld (g.own (PointerTo object)) → IsUniqueObject g objects object
  pub owned : (object : ℕ) (t : ObjectType) (x : Object) → slice_get g.objects object ≡ Some t → slice_get objects object ≡ Some x → AreOwned g object t x.cells
  pub lent : (object : ℕ) (t : ObjectType) (x : Object) → slice_get g.objects object ≡ Some t → slice_get objects object ≡ Some x → AreLent g object t x.cells

-- Says that a new object with this lifetime may be allocated, since the region of the lifetime is open.
abbrev pub IsOpenLife : List Region → Life → Type 0
IsOpenLife regions (OfRegion number around lent) = is_open (slice_get regions number) ≡ true
IsOpenLife regions (Kept (KeyOf number)) = is_open (slice_get regions number) ≡ true
IsOpenLife regions l = Unit {0}

-- Says that an object with this lifetime is live.
abbrev pub IsOpenObject : Typing → List Region → (object : ℕ) → Life → Type 0
IsOpenObject g regions object Owned = IsHeld (g.own (PointerTo object))
IsOpenObject g regions object l = IsOpenLife regions l

-- Holds if one of the first `count` loans lends the resource.
abbrev pub is_lent_by : ℕ → Holder → Bool
is_lent_by count (Lent before object) = nat_lt before count
is_lent_by count h = false

abbrev pub lent_now : Typing → Thing → Bool
lent_now g a = is_lent_by g.loans (g.own a)

-- Says that all resources that were lent when this lifetime began are lent now.
abbrev pub IsOpenIn : Typing → Life → Type 0
IsOpenIn g (Kept a) = lent_now g a ≡ true
IsOpenIn g (OfRegion number around lent) = (a : Thing) → lent a ≡ true → lent_now g a ≡ true
IsOpenIn g l = Unit {0}

-- ---- growth

-- Says that all facts about objects in an earlier typing of the heap state stay true in a later one.
pub record Grows (g h : Typing) : Type 0 where
  pub objects : (number : ℕ) (t : ObjectType) → slice_get g.objects number ≡ Some t → slice_get h.objects number ≡ Some t
  pub filled : (number count : ℕ) → IsFilled g number count → IsFilled h number count
  pub fields : (struct : ℕ) (ls : List Life) (ts : List RunTy) → g.fields struct ls ≡ Some ts → h.fields struct ls ≡ Some ts
  pub kept : (number : ℕ) → IsAmong number g.kept → IsAmong number h.kept

-- Says that the facts about objects stay true and that no resource (key or unique pointer) changes its owner.
pub record Stays (g h : Typing) : Type 0 where
  pub grows : Grows g h
  pub own : h.own ≡ g.own
  pub here : h.here ≡ g.here
  pub pending : h.pending ≡ g.pending
  pub depth : h.depth ≡ g.depth
  pub loans : h.loans ≡ g.loans
