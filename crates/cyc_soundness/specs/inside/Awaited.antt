-- This file defines for each entry of the control stack how the run continues after it, and the operands stored in it.
-- The file also defines the value or memory cell for which each entry of the control stack waits.
use Rattle.std.specs.Prelude.{◌≡◌, ◌≢◌, ◌⊎◌, ℕ, suc, ◌+◌, ◌<◌, ◌≤◌, Bool, true, false, List, [], ◌∷◌, length, map, Option, Some, None, slice_get}
use Rattle.cyc_syntax.specs.declared.tree.PointerKind.{PointerKind}
use Rattle.cyc_syntax.specs.declared.tree.PointerKind.TheVariants as marks
use Rattle.cyc_types.specs.declared.region.Region.{Region}
use Rattle.cyc_types.specs.declared.region.Region.TheVariants as regions
use Rattle.cyc_types.specs.declared.typed.Kind.{Kind}
use Rattle.cyc_types.specs.declared.typed.Kind.TheVariants as kinds
use Rattle.cyc_types.specs.declared.typed.Callee.{Callee}
use Rattle.cyc_types.specs.declared.typed.Callee.TheVariants as callees
use Rattle.cyc_types.specs.declared.typed.Operator.{Operator}
use Rattle.cyc_types.specs.declared.typed.PointerOperator.{PointerOperator}
use Rattle.cyc_types.specs.declared.typed.UnaryOperator.TheVariants as unary
use Rattle.cyc_types.specs.Types.{Ty, ValueType, result_type}
use Rattle.cyc_types.specs.Types as types
use Rattle.cyc_types.specs.TypedTrees.{Expression, Initial, Convert, Arguments, Operations, ThenTest, ThenPointerPeek, Side, Statement, Items, StructType, GlobalVariable, Function, Program}
use Rattle.cyc_types.specs.Outlives.{RegionContext, OutlivesIn}
use Rattle.cyc_types.specs.typing.Tests.{is_struct, is_key, is_unique, is_tested, kind_of_mark, kind_of, kind_of_value}
use Rattle.cyc_types.specs.typing.Expressions.{assigned_type}
use Rattle.cyc_types.specs.typing.Statements.{with_region_of}
use Rattle.cyc_types.specs.declared.scope.Kind.TheVariants as scopes
use Rattle.cyc_types.specs.typing.WellTyped.{Context, Converts, PointerOperation, with_counter, IsLive, in_body, with_local, with_opened, with_key_opened}
use Rattle.cyc_types.specs.flow.States as flow
use Rattle.cyc_types.specs.flow.States.{Locked, Full, with_fullness, is_reached}
use Rattle.cyc_meaning.specs.Values.{Operand}
use Rattle.cyc_meaning.specs.Values as values
use Rattle.cyc_meaning.specs.State.{Owner, Awaiting, ConvertTo, Operate, Chain, Apply, ApplyPointer, Decide, Store, StoreCell, Pass, Follow, FollowMember, Index, Advance, CountElements, PlaceBy, BesideHandle, MakePlain, MakeFields, MakeArray, FillElement, Initialise, Choose, Test, Return}
use Rattle.cyc_meaning.specs.State.{ThrowWith, FreeObject, CloseByKey, OpenBy, AliasOf, AwaitingPlace, LoadFrom, TakeAddress, StoreTo, SwapLeft, SwapRight, Write, Entry, Needs, NeedsPlace}
use Rattle.cyc_meaning.specs.Parts.{target_of, target_of_value}
use Rattle.cyc_soundness.specs.inside.Lives.{Life, Owned, RunTy, RunValue, Value, Seen, Into, looked, at, value_at, heap_life, lives_of, as_heap, AllIn, IsKnown}
use Rattle.cyc_soundness.specs.inside.Lives as lives
use Rattle.cyc_soundness.specs.inside.Worlds.{Settled, Awaits, At, IsPlain, Thing, Holder, Hand, pointer_at, thing_of, Owns, Claims, ClaimsPart, ClaimsBy, IsHad, ObjectType, Typing, AgreesWith, IsFilled, HasType, IsResult, AreOperands, IsNewOwner, IsKeyless, AreKeyless}
use Rattle.cyc_soundness.specs.inside.Classes.{Relied, and_looked, IsSpared, IsDeclarable}
use Rattle.cyc_soundness.specs.inside.Frames.{IsAmong, Bound, InScope, Variable, Level, Instance, life_named, lives_in, read, read_value, IsThere, Within, IsSet, IsFullIn, Implies, LoopExit, Exits, around, lending, Stand, IsContext, lives_among}
use Rattle.cyc_soundness.specs.inside.Judgements.{seen_by, Evaluates, EvaluatesWhole, Computes, Passes, Makes, Finds, Executes, Continues}

pub data Want : Type 0 where
  -- The control stack waits for nothing, because the run is over.
  Nothing : Want
  -- The control stack waits for a value of this type (or none, if no value is used); the flow state after the value is given.
  Val : RunValue → flow.State → Want
  -- The control stack waits for a cell of this type and lifetime. The cell is reached through a peek of this local (a
  -- read without a move) or, without a peek, through an operand on the stack.
  PlaceOf : (peek : Option ℕ) → RunTy → Life → flow.State → Want
  -- The control stack waits for the end of a statement.
  Go : flow.State → Want

abbrev pub place_operand : values.Value → Operand
place_operand place = record { kind = kinds.NonNull; value = place }

-- The operands that a stack entry stores while it waits for a value.
abbrev pub held : Awaiting → List Operand
held (Apply operator left) = left ∷ []
held (ApplyPointer peek operator left) = left ∷ []
held (StoreCell peek place) = place_operand place ∷ []
held (Pass callee before rest) = before
held (Advance peek target base) = base ∷ []
held (MakeFields owner before rest) = before
held a = []

-- The number of operands that a continuation frame of the control stack stores; the pointer to an array under
-- construction counts as one operand.
abbrev pub count_held : Awaiting → ℕ
count_held (FillElement object count index level kind element) = 1
count_held a = length (held a)

-- The number of operands that a stack entry stores while it waits for a cell; the left operand of a swap counts as one operand.
abbrev pub count_place : AwaitingPlace → ℕ
count_place (SwapRight kind peek is_cell left) = 1
count_place a = 0

-- The relation of a stack entry to its context: the expression for which it waits is complete, or is a subexpression of a larger one.
-- The relation also names the local, if any, that was read early (peeked at) and whose read value is not yet used.
pub data Part : Type 0 where
  Whole : (peek : Option ℕ) → Part
  PartOf : (peek : Option ℕ) → Part

abbrev pub part : Awaiting → Part
part (ApplyPointer peek operator left) = PartOf peek
part (StoreCell peek place) = PartOf peek
part (Advance peek target base) = PartOf peek
part (Initialise number kind items) = Whole None
part (Choose first second) = Whole None
part (Test condition body) = Whole None
part Return = Whole None
part (ThrowWith tag) = Whole None
part (OpenBy number lent items) = Whole None
part (AliasOf number lent items) = Whole None
part a = PartOf None

abbrev pub part_of_place : AwaitingPlace → Part
part_of_place (SwapLeft kind peek right) = Whole None
part_of_place (SwapRight kind peek is_cell left) = Whole peek
part_of_place a = PartOf None

abbrev pub relied_by : Part → (around now : Relied) → Relied
relied_by (Whole peek) around now = and_looked peek around
relied_by (PartOf peek) around now = and_looked peek now

-- The flow states that must stay true for the entries above this stack, given those that catch clauses require. A local
-- that was read early (peeked at) must not change until the read value is used.
abbrev pub relied_at : Relied → List Entry → Relied
relied_at q [] = q
relied_at q (Needs a ∷ stack) = relied_by (part a) q (relied_at q stack)
relied_at q (NeedsPlace a ∷ stack) = relied_by (part_of_place a) q (relied_at q stack)
relied_at q (entry ∷ stack) = q

-- The elements of the first list, newest first, are put in reverse order before the second list.
abbrev pub turned : {A : Type 0} → List A → List A → List A
turned [] rest = rest
turned (a ∷ before) rest = turned before (a ∷ rest)

-- The live regions and constraints at the start of a function, before the function's own region is open.
abbrev pub regions_at_call : Function → RegionContext
regions_at_call h = record { written = h.constraints; live = regions.Heap ∷ regions.Unique ∷ h.effect; opened = [] }

-- Says that the region variables of a called function denote lifetimes of the caller's regions, and that those that are live in the
-- called function are live in the caller.
pub record IsInstance (bs : List InScope) (h : Function) (these : ℕ → Life) (live : ℕ → Bool) : Type 0 where
  pub stand : Stand (regions_at_call h) (Instance these live ∷ [])
  pub lasting : (n : ℕ) → live n ≡ true → (r : Region) × (r ≢ regions.Unique) × IsThere bs r × (lives_in bs r ≡ these n)
  pub named : (n : ℕ) → (r : Region) × (r ≢ regions.Unique) × (lives_in bs r ≡ these n)

-- Says that a call of this function with arguments of these types returns a value of this type.
abbrev pub IsCalled : Program → List InScope → Callee → List RunTy → RunValue → Type 0
IsCalled p bs callees.Putchar ts r = (ts ≡ lives.Int ∷ []) × (r ≡ Value lives.Int)
IsCalled p bs callees.Getchar ts r = (ts ≡ []) × (r ≡ Value lives.Int)
IsCalled p bs (callees.Function number) ts r =
    (h : Function) × (these : ℕ → Life) × (live : ℕ → Bool) × (slice_get p.functions number ≡ Some h) × IsInstance bs h these live
    × (ts ≡ map (at (lives_of these)) h.parameters) × (r ≡ value_at (lives_of these) (result_type h.result))

-- Says that these are the field types of a struct with these lifetimes as parameters, and that no field type is a key.
abbrev pub AreFields : Program → (struct : ℕ) → List Life → List RunTy → Type 0
AreFields p n ls ts = (s : StructType) × (slice_get p.structs n ≡ Some s) × (length ls ≡ s.parameters) × (ts ≡ map (at (lives_among ls)) s.fields) × AreKeyless ts

-- Says that the next declaration may declare a local of this type.
abbrev pub IsNew : Context → Ty → Type 0
IsNew c t = IsDeclarable c.next_region t × IsLive c (regions.Variable c.region)

abbrev pub null : Operand
null = record { kind = kinds.Nullable; value = values.Null }

-- The possible exits of control inside the body of a loop.
abbrev pub inside : Exits → LoopExit → Exits
inside x l = record x { loop = Some l; locks = [] }

-- Says that a loop is well-typed: the flow state after its condition is `f`, and the state after the loop is `exit`.
pub record IsLoop (p : Program) (x : Exits) (bs : List InScope) (l : LoopExit) (condition : Expression) (body : Statement) (v : ValueType) (f exit : flow.State) : Type 0 where
  pub context : Context
  pub now : flow.State
  pub stands : IsContext p x bs context
  pub tested : is_tested v ≡ true
  pub first : Evaluates x.relied context condition l.head v f
  pub again : Executes (inside x l) (in_body context) body f now
  pub back : Implies now l.head
  pub fails : Implies f exit
  pub left : Implies l.breaks exit

-- Says that evaluating one element of an array of this type loses no facts of the state before the element.
pub record Repeats (q : Relied) (c : Context) (level : ℕ) (kind : Kind) (element : Expression) (t : Ty) (f : flow.State) : Type 0 where
  pub now : flow.State
  pub level_is : level ≡ c.counters
  pub kind_is : kind ≡ kind_of t
  pub each : Evaluates q (with_counter c) element f (types.Value t) now
  pub taken : seen_by element each.typed ≡ None
  pub back : Implies now f
  pub plain : is_key t ≡ false

-- Says that a region that outlives a region with the lifetime of a unique object also denotes the lifetime of a unique object.
abbrev pub KeepsUnique : RegionContext → (Region → Life) → Type 0
KeepsUnique c n = (a b : Region) → OutlivesIn c a b → n b ≡ Owned → n a ≡ Owned

-- Says that a value is not a linear resource (a key or a unique pointer), which would have a single owner.
abbrev pub IsPlainValue : RunValue → Type 0
IsPlainValue (Value t) = IsPlain t
IsPlainValue r = Unit {0}

-- Says that the operators that are still to be applied fit the left operand. If the operand is a peek (a read that does not move a local's
-- value), then the next operator must not move the value.
abbrev pub IsChained : Option ℕ → RunValue → Operations → Type 0
IsChained peek r (ThenTest o a os) = Unit {0}
IsChained peek r (ThenPointerPeek n o a os) = (peek ≡ Some n) ⊎ ((peek ≡ None) × IsPlainValue r)
IsChained peek r os = peek ≡ None

-- Says that a run-time value is a pointer of this type, read by a peek or not, through which a cell is reached.
abbrev pub IsThrough : Option ℕ → RunTy → RunValue → Type 0
IsThrough peek t r = (r ≡ looked peek (Value t)) ⊎ (r ≡ Into peek t)

-- Says that a lifetime is not that of a unique object, so other pointers may share it.
abbrev pub IsCommonLife : Life → Type 0
IsCommonLife Owned = ⊥
IsCommonLife l = Unit {0}

-- Says that the type alone determines if its values represent a linear resource: the type is not a unique pointer.
abbrev pub IsByType : RunTy → Type 0
IsByType (lives.Pointer k t l) = IsCommonLife l
IsByType t = Unit {0}

-- The typing of a stack entry that waits for a value. The typing relates the entry's stored operands, the awaited value,
-- the flow state and the scope to what the entry passes on to the next stack entry.
pub data Waits (p : Program) (x : Exits) (q : Relied) (bs : List InScope) : Awaiting → List RunTy → RunValue → flow.State → List InScope → Want → Type 0 where
  converts : {from to : Kind} {target : Option Kind} (c : Context) (v : ValueType) (t : Ty) (f : flow.State) → AgreesWith c.regions (lives_in bs) → KeepsUnique c.regions (lives_in bs) → Converts c v t → from ≡ kind_of_value v → to ≡ kind_of t → target ≡ target_of_value v
      → Waits p x q bs (ConvertTo from to target) [] (read_value bs v) f bs (Val (Value (read bs t)) f)
  negates : (f : flow.State) → Waits p x q bs (Operate unary.Negate) [] (Value lives.Int) f bs (Val (Value lives.Int) f)
  complements : (f : flow.State) → Waits p x q bs (Operate unary.Complement) [] (Value lives.Int) f bs (Val (Value lives.Int) f)
  denies : (peek : Option ℕ) (v : ValueType) (f : flow.State) → is_tested v ≡ true → Waits p x q bs (Operate unary.Not) [] (looked peek (read_value bs v)) f bs (Val (Value lives.Int) f)
  widens : (f : flow.State) → Waits p x q bs (Operate unary.Widen) [] (Value lives.Char) f bs (Val (Value lives.Int) f)
  narrows : (f : flow.State) → Waits p x q bs (Operate unary.LowByte) [] (Value lives.Int) f bs (Val (Value lives.Char) f)
  chains : {os : Operations} (peek : Option ℕ) (c : Context) (v : ValueType) (t : Ty) (f h : flow.State) → IsContext p x bs c → Computes q c v os f t h → IsChained peek (read_value bs v) os
      → Waits p x q bs (Chain os) [] (looked peek (read_value bs v)) f bs (Val (Value (read bs t)) h)
  applies : {o : Operator} {left : Operand} (f : flow.State) → Waits p x q bs (Apply o left) (lives.Int ∷ []) (Value lives.Int) f bs (Val (Value lives.Int) f)
  decides : (peek : Option ℕ) (v : ValueType) (f h : flow.State) → is_tested v ≡ true → Implies f h → Waits p x q bs Decide [] (looked peek (read_value bs v)) f bs (Val (Value lives.Int) h)
  stores_local : (b : Bound) (t : Ty) (f : flow.State) → IsAmong (Variable b) bs → b.of_type ≡ read bs t → (b.is_hidden ≡ true → IsSpared q b.number)
      → Waits p x q bs (Store (values.Thin b.object 0)) [] (Value (read bs t)) f bs (Val (read_value bs (assigned_type t)) (with_fullness Full f b.number))
  stores_global : (number : ℕ) (t : Ty) (f : flow.State) → slice_get (map (λ (v : GlobalVariable). v.of_type) p.globals) number ≡ Some t → read bs t ≡ at as_heap t
      → Waits p x q bs (Store (values.Thin number 0)) [] (Value (read bs t)) f bs (Val (read_value bs (assigned_type t)) f)
  points : {peek : Option ℕ} {o : PointerOperator} {left : Operand} (also : Option ℕ) (c : Context) (t : Ty) (v w : ValueType) (f : flow.State) → IsContext p x bs c → PointerOperation c o (types.Value t) v w
      → Waits p x q bs (ApplyPointer peek o left) (read bs t ∷ []) (looked also (read_value bs v)) f bs (Val (read_value bs w) f)
  null_points : {peek : Option ℕ} {o : PointerOperator} (also : Option ℕ) (c : Context) (v w : ValueType) (f : flow.State) → PointerOperation c o types.Null v w
      → Waits p x q bs (ApplyPointer peek o null) (lives.Pointer marks.Nullable lives.Int heap_life ∷ []) (looked also (read_value bs v)) f bs (Val (read_value bs w) f)
  stores_cell : {peek : Option ℕ} {place : values.Value} (t : Ty) (r : Region) (f : flow.State) → IsThere bs r
      → Waits p x q bs (StoreCell peek place) (lives.Pointer marks.NonNull (read bs t) (lives_in bs r) ∷ []) (Value (read bs t)) f bs (Val (read_value bs (assigned_type t)) f)
  follows : {k : Kind} {target : Option Kind} (peek : Option ℕ) (v : RunValue) (m : PointerKind) (t : Ty) (r : Region) (f : flow.State) → IsThrough peek (lives.Pointer m (read bs t) (lives_in bs r)) v → k ≡ kind_of_mark m → target ≡ target_of t
      → IsThere bs r → Waits p x q bs (Follow k target) [] v f bs (PlaceOf peek (read bs t) (lives_in bs r) f)
  follows_member : {k : Kind} {fields : List Kind} {field : ℕ} (peek : Option ℕ) (m : PointerKind) (n : ℕ) (ls : List Life) (s : StructType) (t : Ty) (u : RunTy) (r : Region) (f : flow.State) → k ≡ kind_of_mark m
      → slice_get p.structs n ≡ Some s → fields ≡ map values.kind_of s.fields → slice_get s.fields field ≡ Some t → (length ls ≡ s.parameters → at (lives_among ls) t ≡ u) → IsThere bs r
      → Waits p x q bs (FollowMember k fields field) [] (looked peek (Value (lives.Pointer m (lives.Struct n ls) (lives_in bs r)))) f bs (PlaceOf peek u (lives_in bs r) f)
  indexes : {peek : Option ℕ} {target : Option Kind} {index : Expression} (c : Context) (t : Ty) (r : Region) (f h : flow.State) → IsContext p x bs c → (is_reached f ≡ true → EvaluatesWhole (and_looked peek q) c index f (types.Value types.Int) h)
      → target ≡ target_of t → IsThere bs r → Waits p x q bs (Index peek target index) [] (looked peek (Value (lives.Pointer marks.Fat (read bs t) (lives_in bs r)))) f bs (PlaceOf peek (read bs t) (lives_in bs r) h)
  advances : {peek : Option ℕ} {target : Option Kind} {base : Operand} (t : Ty) (r : Region) (f : flow.State) → target ≡ target_of t → IsThere bs r
      → Waits p x q bs (Advance peek target base) (lives.Pointer marks.Fat (read bs t) (lives_in bs r) ∷ []) (Value lives.Int) f bs (PlaceOf peek (read bs t) (lives_in bs r) f)
  counts_elements : (peek : Option ℕ) (t : RunTy) (l : Life) (f : flow.State) → Waits p x q bs CountElements [] (looked peek (Value (lives.Pointer marks.Fat t l))) f bs (Val (Value lives.Int) f)
  places_by : {i : Initial} (c : Context) (m : PointerKind) (t : Ty) (r : Region) (f h : flow.State) → IsContext p x bs c → Makes q c i m t f h → IsThere bs r
      → Waits p x q bs (PlaceBy i) [] (Value (lives.Handle (lives_in bs r))) f bs (Val (Value (lives.Pointer m (read bs t) (lives_in bs r))) h)
  beside_handle : {region : ℕ} (t : RunTy) (f : flow.State) → Waits p x q bs (BesideHandle region) [] (Value t) f bs (Val (Value t) f)
  makes_plain : {owner : Owner} {kind : Kind} (t : Ty) (r : Region) (f : flow.State) → IsKeyless (read bs t) → IsThere bs r → IsNewOwner (lives_in bs r) owner → kind ≡ kind_of t
      → Waits p x q bs (MakePlain owner kind) [] (Value (read bs t)) f bs (Val (Value (lives.Pointer marks.NonNull (read bs t) (lives_in bs r))) f)
  makes_fields : {owner : Owner} {before : List Operand} {rest : Arguments} (c : Context) (done : List RunTy) (t : Ty) (ts : List Ty) (n : ℕ) (ls : List Life) (r : Region) (f h : flow.State)
      → IsThere bs r → IsNewOwner (lives_in bs r) owner → IsContext p x bs c → Passes q c ts rest f h → AreFields p n ls (turned (read bs t ∷ done) (map (read bs) ts))
      → Waits p x q bs (MakeFields owner before rest) done (Value (read bs t)) f bs (Val (Value (lives.Pointer marks.NonNull (lives.Struct n ls) (lives_in bs r))) h)
  makes_array : {owner : Owner} {level : ℕ} {kind : Kind} {element : Expression} (c : Context) (t : Ty) (r : Region) (f : flow.State) → IsThere bs r → IsNewOwner (lives_in bs r) owner → IsContext p x bs c
      → Repeats q c level kind element t f
      → Waits p x q bs (MakeArray owner level kind element) [] (Value lives.Int) f bs (Val (Value (lives.Pointer marks.Fat (read bs t) (lives_in bs r))) f)
  fills : {object count index level : ℕ} {kind : Kind} {element : Expression} (cs : List InScope) (c : Context) (t : Ty) (r : Region) (f h : flow.State) → (bs ≡ Level level ∷ cs) → IsThere cs r → IsContext p x cs c
      → Repeats q c level kind element t f → Implies h f
      → Waits p x q bs (FillElement object count index level kind element) (lives.Pointer marks.Fat (read cs t) (lives_in cs r) ∷ []) (Value (read cs t)) h cs (Val (Value (lives.Pointer marks.Fat (read cs t) (lives_in cs r))) f)
  passes : {callee : Callee} {before : List Operand} {rest : Arguments} (c : Context) (done : List RunTy) (t : Ty) (ts : List Ty) (r : ValueType) (f h : flow.State)
      → IsContext p x bs c → Passes q c ts rest f h → IsCalled p bs callee (turned (read bs t ∷ done) (map (read bs) ts)) (read_value bs r)
      → Waits p x q bs (Pass callee before rest) done (Value (read bs t)) f bs (Val (read_value bs r) h)
  initialises : {number : ℕ} {kind : Kind} {js : Items} (cs : List InScope) (c : Context) (t : Ty) (f h : flow.State) → Within cs bs → IsContext p x bs c
      → IsNew c t → number ≡ c.next_local → kind ≡ kind_of t → Continues x (with_local true t c) js (with_fullness Full f number) h → Waits p x q bs (Initialise number kind js) [] (Value (read bs t)) f cs (Go h)
  chooses : {first second : Statement} (peek : Option ℕ) (c d : Context) (v : ValueType) (f g h i : flow.State) → is_tested v ≡ true → IsContext p x bs c → IsContext p x bs d
      → Executes x c first f g → Executes x d second f h → Implies g i → Implies h i → Waits p x q bs (Choose first second) [] (looked peek (read_value bs v)) f bs (Go i)
  tests : {condition : Expression} {body : Statement} (peek : Option ℕ) (l : LoopExit) (v : ValueType) (f h : flow.State) → IsLoop p x bs l condition body v f h
      → Waits p x q bs (Test condition body) [] (looked peek (read_value bs v)) f bs (Go h)
  returns : (t : Ty) (u : RunTy) (f h : flow.State) → x.result ≡ Some t → Value u ≡ x.gives → Waits p x q bs Return [] (Value u) f bs (Go h)
  frees_object : (k : PointerKind) (t : RunTy) (f : flow.State) → Waits p x q bs FreeObject [] (Value (lives.Pointer k t Owned)) f bs (Go f)
  closes_by_key : (r : Region) (f : flow.State) → Waits p x q bs CloseByKey [] (Value (lives.Key (lives_in bs r))) f bs (Go f)
  throws : {tag : ℕ} (f h : flow.State) → Waits p x q bs (ThrowWith tag) [] (Value lives.Int) f bs (Go h)
  opens_by : {number lent : ℕ} {js : Items} (cs : List InScope) (c : Context) (b : Bound) (r : ℕ) (f h i : flow.State) → Within cs bs → IsContext p x bs c → IsAmong (Variable b) bs → b.number ≡ lent → b.of_type ≡ lives.Key (life_named bs r) → b.is_hidden ≡ true → IsSet f lent
      → IsSpared x.relied lent → IsFullIn f lent → r < c.next_region → IsLive c (regions.Variable c.region) → number ≡ c.next_local
      → Continues (lending x lent) (with_local false (types.Handle (regions.Variable r)) (with_key_opened r c)) js (with_fullness Full (with_fullness Locked f lent) number) h
      → Implies (with_fullness Full h lent) i → Waits p x q bs (OpenBy number lent js) [] (Seen b.object (lives.Key (life_named bs r))) f cs (Go i)
  aliases : {number lent : ℕ} {js : Items} (cs : List InScope) (c : Context) (b : Bound) (u t : Ty) (f h i : flow.State) → Within cs bs → IsContext p x bs c → IsAmong (Variable b) bs → b.number ≡ lent → b.of_type ≡ read bs u → b.is_hidden ≡ true → IsSet f lent
      → IsSpared x.relied lent → IsFullIn f lent → is_unique u ≡ true → AllIn (IsKnown c.next_region) u → t ≡ with_region_of (regions.Variable c.next_region) u → IsLive c (regions.Variable c.region) → number ≡ c.next_local
      → Continues (lending x lent) (with_local true t (with_opened scopes.Alias c)) js (with_fullness Full (with_fullness Locked f lent) number) h
      → Implies (with_fullness Full h lent) i → Waits p x q bs (AliasOf number lent js) [] (Seen b.object (read bs u)) f cs (Go i)

-- The typing of a stack entry that waits for a cell of this type and lifetime, and for the way the run continues after it.
pub data WaitsPlace (p : Program) (x : Exits) (q : Relied) (bs : List InScope) : AwaitingPlace → Option ℕ → RunTy → Life → flow.State → Want → Type 0 where
  loads_from : {kind : Kind} (peek : Option ℕ) (t : Ty) (r : Region) (f : flow.State) → IsThere bs r → IsByType (read bs t) → is_struct t ≡ false → kind ≡ values.kind_of t
      → WaitsPlace p x q bs (LoadFrom kind) peek (read bs t) (lives_in bs r) f (Val (Value (read bs t)) f)
  takes_address : (peek : Option ℕ) (t : RunTy) (l : Life) (f : flow.State) → IsCommonLife l → WaitsPlace p x q bs TakeAddress peek t l f (Val (Value (lives.Pointer marks.NonNull t l)) f)
  stores_to : {peek : Option ℕ} {from to : Kind} {a : Expression} (c : Context) (v : ValueType) (t : Ty) (r : Region) (f h : flow.State) → IsThere bs r → IsContext p x bs c → (is_reached f ≡ true → EvaluatesWhole (and_looked peek q) c a f v h)
      → Converts c v t → from ≡ kind_of_value v → to ≡ kind_of t → WaitsPlace p x q bs (StoreTo peek (Convert from to a)) peek (read bs t) (lives_in bs r) f (Val (read_value bs (assigned_type t)) h)
  swaps_left : {kind : Kind} {peek : Option ℕ} {right : Side} (c : Context) (t : Ty) (r : Region) (f h : flow.State) → IsThere bs r → IsContext p x bs c → kind ≡ values.kind_of t → is_struct t ≡ false
      → (is_reached f ≡ true → Finds (and_looked peek x.relied) c right f t h) → WaitsPlace p x q bs (SwapLeft kind peek right) peek (read bs t) (lives_in bs r) f (Go h)
  swaps_right : {kind : Kind} {peek : Option ℕ} {is_cell : Bool} {left : values.Value} (through : Option ℕ) (t : Ty) (r : Region) (f : flow.State) → IsThere bs r → kind ≡ values.kind_of t
      → WaitsPlace p x q bs (SwapRight kind peek is_cell left) through (read bs t) (lives_in bs r) f (Go f)

-- ---- arrays

-- Says that the first `count` cells of an object have this type, that the first `index` cells hold a value, and that the
-- object has this lifetime.
abbrev pub IsArray : Typing → RunTy → Life → (object count index : ℕ) → Type 0
IsArray g t l object count index =
    (y : ObjectType) × (slice_get g.objects object ≡ Some y) × (y.is_hidden ≡ false) × (y.life ≡ l)
    × ((i : ℕ) → i < count → slice_get y.cells i ≡ Some t) × IsFilled g object index × (index ≤ count)

-- Says that an array is under construction and that an operand on the stack owns the pointer to it.
abbrev pub IsArrayOf : Typing → (hand : ℕ) → List RunTy → (object count index : ℕ) → Type 0
IsArrayOf g i (lives.Pointer m t l ∷ []) object count index = (index < count) × IsArray g t l object count index × Owns g.own (Hand i) (pointer_at l object)
IsArrayOf g i ts object count index = ⊥

-- Says that operands stored on the stack (newest first), above `below` other operands, own the resources
-- (keys and unique pointers) that they represent.
abbrev pub AreClaimed : (own : Thing → Holder) → (below : ℕ) → List RunTy → List Operand → Type 0
AreClaimed own i (t ∷ ts) (v ∷ vs) = Claims own (Hand (i + length ts)) t v.value × AreClaimed own i ts vs
AreClaimed own i ts vs = Unit {0}

-- Says that arguments in order, the first of which has the stack index `place`, own the resources
-- (keys and unique pointers) that they represent.
abbrev pub AreGiven : (own : Thing → Holder) → (place : ℕ) → List RunTy → List Operand → Type 0
AreGiven own i (t ∷ ts) (v ∷ vs) = Claims own (Hand i) t v.value × AreGiven own (suc i) ts vs
AreGiven own i ts vs = Unit {0}

-- Says that a single operand, or the peeked local from which it was read, owns the resource into which the operand points.
abbrev pub IsHeldPart : Typing → (hand : ℕ) → (peek : Option ℕ) → List RunTy → Operand → Type 0
IsHeldPart g i peek [] v = Unit {0}
IsHeldPart g i peek (t ∷ ts) v = ClaimsPart g i peek (thing_of t v.value)

-- the number of operands stored on a stack
abbrev pub operands_in : List Entry → ℕ
operands_in [] = 0
operands_in (Needs a ∷ stack) = count_held a + operands_in stack
operands_in (NeedsPlace a ∷ stack) = count_place a + operands_in stack
operands_in (entry ∷ stack) = operands_in stack

-- Says that the value passed to this stack, as its newest operand, owns the resource (key or unique pointer) that it represents.
abbrev pub Comes : Typing → RunValue → Operand → List Entry → Type 0
Comes g r v stack = ClaimsBy g (operands_in stack) r v.value

-- Says that the operands stored in a stack entry, above `below` other operands, have these types. For an array under
-- construction, the type is that of the pointer to the array.
abbrev pub Keeps : Typing → (below : ℕ) → Awaiting → List RunTy → Type 0
Keeps g i (FillElement object count index level kind element) ts = IsArrayOf g i ts object count index
Keeps g i (ApplyPointer peek operator left) ts = AreOperands g ts (left ∷ []) × IsHeldPart g i peek ts left
Keeps g i (StoreCell peek place) ts = AreOperands g ts (place_operand place ∷ []) × IsHeldPart g i peek ts (place_operand place)
Keeps g i (Advance peek target base) ts = AreOperands g ts (base ∷ []) × IsHeldPart g i peek ts base
Keeps g i a [] = AreOperands g [] (held a)
Keeps g i a (t ∷ ts) = AreOperands g (t ∷ ts) (held a) × AreClaimed g.own i (t ∷ ts) (held a)

-- ---- swaps

-- The left or right operand of a swap after its evaluation: a variable whose value is not lent in this flow state, or a
-- cell to which a pointer points.
pub data IsSpot (p : Program) (g : Typing) (bs : List InScope) (t : Ty) (f : flow.State) : values.Value → Type 0 where
  of_local : (b : Bound) → IsAmong (Variable b) bs → b.of_type ≡ read bs t → IsFullIn f b.number → IsSpot p g bs t f (values.Thin b.object 0)
  of_global : (number : ℕ) → slice_get (map (λ (v : GlobalVariable). v.of_type) p.globals) number ≡ Some t → read bs t ≡ at as_heap t
      → IsSpot p g bs t f (values.Thin number 0)
  of_cell : (place : values.Value) (r : Region) → IsThere bs r → HasType g (lives.Pointer marks.NonNull (read bs t) (lives_in bs r)) place → IsHad g (thing_of (lives.Pointer marks.NonNull (read bs t) (lives_in bs r)) place)
      → IsSpot p g bs t f place

-- The left operand of a swap, while the right operand is evaluated. The left operand is a variable, or a cell that is reached through
-- a peeked local or through a stored operand.
pub data IsLeftSpot (p : Program) (g : Typing) (hand : ℕ) (peek : Option ℕ) (bs : List InScope) (t : Ty) (f : flow.State) : values.Value → Type 0 where
  left_variable : (place : values.Value) → ((h : Typing) → IsSpot p h bs t f place) → IsLeftSpot p g hand peek bs t f place
  left_cell : (place : values.Value) (r : Region) → IsThere bs r → HasType g (lives.Pointer marks.NonNull (read bs t) (lives_in bs r)) place
      → ClaimsPart g hand peek (thing_of (lives.Pointer marks.NonNull (read bs t) (lives_in bs r)) place) → IsLeftSpot p g hand peek bs t f place

-- Says that the left operand of a swap is stored in the swap's stack entry while the right operand is evaluated; both
-- operands have this type.
abbrev pub KeepsPlace : Program → Typing → (hand : ℕ) → List InScope → AwaitingPlace → RunTy → flow.State → Type 0
KeepsPlace p g i bs (SwapRight kind peek is_cell left) r f = (t : Ty) × (r ≡ read bs t) × (is_struct t ≡ false) × IsLeftSpot p g i peek bs t f left
KeepsPlace p g i bs a r f = Unit {0}

-- Says that a value owns the resource (key or unique pointer) that it represents as the value stored in this cell.
abbrev pub ClaimsAt : (own : Thing → Holder) → (place : values.Value) → RunTy → values.Value → Type 0
ClaimsAt own (values.Thin object offset) t v = Claims own (At object offset) t v
ClaimsAt own place t v = ⊥

-- Says that the value read from the left operand of a swap, if any, is still stored in this cell.
abbrev pub IsRead : Typing → (left : values.Value) → RunTy → Option Operand → Type 0
IsRead g left t None = Unit {0}
IsRead g left t (Some v) = IsResult g (Value t) v × ClaimsAt g.own left t v.value

-- Says that a write of a swap stores a value of the cell's type.
abbrev pub IsWrite : Program → Typing → List InScope → flow.State → Ty → Write → Type 0
IsWrite p g bs f t w = (is_struct t ≡ false) × IsSpot p g bs t f w.place × IsResult g (Value (read bs t)) w.operand

-- Says that a swap still has to perform its second write, which is to this cell.
abbrev pub IsAwaited : Typing → (place : values.Value) → Type 0
IsAwaited g (values.Thin object offset) = g.pending ≡ Awaits object offset
IsAwaited g place = ⊥

-- Says that the two writes of a swap are well-typed. After the first write, an operand holds the old value of the left operand's
-- cell, which the second write stores in the right operand's cell.
abbrev pub AreSwapped : Program → Typing → (hand : ℕ) → List InScope → flow.State → List Write → Type 0
AreSwapped p g i bs f [] = g.pending ≡ Settled
AreSwapped p g i bs f (w ∷ []) = (t : Ty) × IsWrite p g bs f t w × IsAwaited g w.place × Claims g.own (Hand i) (read bs t) w.operand.value
AreSwapped p g i bs f (v ∷ w ∷ []) =
    (t : Ty) × IsWrite p g bs f t v × IsWrite p g bs f t w × (g.pending ≡ Settled) × ClaimsAt g.own w.place (read bs t) v.operand.value × ClaimsAt g.own v.place (read bs t) w.operand.value
AreSwapped p g i bs f (u ∷ v ∷ w ∷ ws) = ⊥
