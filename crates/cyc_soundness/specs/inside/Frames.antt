-- This file defines the locals of a call: the objects of the locals in scope, the facts of the flow rules about them, and the possible
-- exits of control.
use Rattle.std.specs.Prelude.{◌≡◌, ◌⊎◌, ℕ, ◌<◌, ◌==◌, Bool, true, false, if◌then◌else◌, List, [], ◌∷◌, ◌++◌, length, map, Option, Some, None, Contains, slice_get, slice_index_or}
use Rattle.cyc_syntax.specs.Symbols.{Place}
use Rattle.cyc_types.specs.declared.region.Region.{Region}
use Rattle.cyc_types.specs.declared.region.Region.TheVariants as regions
use Rattle.cyc_types.specs.Types.{Ty, ValueType, result_type}
use Rattle.cyc_types.specs.TypedTrees.{StructType, GlobalVariable, Function, Program}
use Rattle.cyc_types.specs.Outlives.{RegionContext, live_regions, IsGiven}
use Rattle.cyc_types.specs.typing.Tests.{is_moved, is_key}
use Rattle.cyc_types.specs.typing.WellTyped.{LocalInScope, Context, signature_of, AreConstraints}
use Rattle.cyc_types.specs.flow.States as flow
use Rattle.cyc_types.specs.flow.States.{fullness, is_vacant, is_reached, Reached}
use Rattle.cyc_types.specs.flow.Statements.{Loop, Around}
use Rattle.cyc_meaning.specs.State.{globals_number, Entry, CloseRegion, Caller}
use Rattle.cyc_meaning.specs.inside.Nesting.{ends_of}
use Rattle.cyc_soundness.specs.inside.Lives.{Life, OfRegion, Kept, RunTy, RunValue, Void, Lives, at, value_at, heap_life, lives_of, as_heap, AllIn, AllInValue, IsKnown}
pub use Rattle.cyc_soundness.specs.inside.Worlds.{IsAmong, first, later}
use Rattle.cyc_soundness.specs.inside.Worlds.{OfLocal, ObjectType, Typing, IsHere, IsOpenIn, IsKnownLife, IsFull, variable_type, global_type, IsEndOf, Outlasts, IsNumber}
use Rattle.cyc_soundness.specs.inside.Classes.{is_full, Relied, IsDeclarable, only}

-- A local in scope, with its object and the lifetime of this object.
pub record Bound : Type 0 where
  pub number : ℕ
  pub object : ℕ
  pub of_type : RunTy
  pub life : Life
  -- True if no pointer may point to the object.
  pub is_hidden : Bool

-- The type of a local's object, in a call that `depth` other calls enclose on the call stack.
abbrev pub local_type : (depth : ℕ) → Bound → ObjectType
local_type d b = variable_type b.of_type b.life b.is_hidden (OfLocal d b.number)

-- An entry of a scope: a local, the loop counter of an array, a region variable, all region variables of a call, or the region of a block.
pub data InScope : Type 0 where
  Variable : Bound → InScope
  -- The loop counter that an enclosing array with `for` uses to fill its elements.
  Level : (level : ℕ) → InScope
  -- The lifetime that the region variable with this index denotes; the flag tells if the region is live.
  Names : (number : ℕ) → Life → (is_live : Bool) → InScope
  -- The lifetimes that all region variables of a call denote; the second function tells which of them are live.
  Instance : (ℕ → Life) → (ℕ → Bool) → InScope
  -- the region in which the variables of the innermost block are stored
  Home : (region : ℕ) → InScope

-- ---- regions

-- The lifetime of a region variable; a region variable without an entry in the scope denotes the heap.
abbrev pub life_named : List InScope → ℕ → Life
life_named [] k = heap_life
life_named (Variable b ∷ bs) k = life_named bs k
life_named (Level l ∷ bs) k = life_named bs k
life_named (Names number life live ∷ bs) k = if k == number then life else life_named bs k
life_named (Instance these live ∷ bs) k = these k
life_named (Home region ∷ bs) k = life_named bs k

abbrev pub is_live_named : List InScope → ℕ → Bool
is_live_named [] k = true
is_live_named (Variable b ∷ bs) k = is_live_named bs k
is_live_named (Level l ∷ bs) k = is_live_named bs k
is_live_named (Names number life live ∷ bs) k = if k == number then live else is_live_named bs k
is_live_named (Instance these live ∷ bs) k = live k
is_live_named (Home region ∷ bs) k = is_live_named bs k

-- the lifetimes that the regions of the function denote in this scope
abbrev pub lives_in : List InScope → Lives
lives_in bs = lives_of (λ n. life_named bs n)

-- The run-time type that a type of a tree becomes when its regions denote the lifetimes of this scope.
abbrev pub read : List InScope → Ty → RunTy
read bs t = at (lives_in bs) t

abbrev pub read_value : List InScope → ValueType → RunValue
read_value bs t = value_at (lives_in bs) t

-- Says that a region is live, given which region variables are live.
abbrev pub IsThereBy : (ℕ → Bool) → Region → Type 0
IsThereBy live regions.Heap = Unit {0}
IsThereBy live regions.Unique = Unit {0}
IsThereBy live (regions.Variable n) = live n ≡ true

-- Says that the lifetime that this region denotes has not ended.
abbrev pub IsThere : List InScope → Region → Type 0
IsThere bs r = IsThereBy (λ n. is_live_named bs n) r

-- the number that identifies the region in which new variables of this scope are stored
abbrev pub home_of : List InScope → ℕ
home_of [] = globals_number
home_of (Home region ∷ bs) = region
home_of (b ∷ bs) = home_of bs

-- ---- locals

-- Says that the lifetime of a local is that of the region of the block that declares it.
abbrev pub IsHomed : Lives → (region : ℕ) → Life → Type 0
IsHomed m region l = l ≡ m (regions.Variable region)

-- Says that this scope entry is the newest local of the typing context, and that the other scope entries match the context's older locals.
abbrev pub IsNewest : Lives → List LocalInScope → InScope → (rest : List LocalInScope) → Type 0
IsNewest m vs (Variable b) rest =
    (v : LocalInScope) × (vs ≡ v ∷ rest) × (v.number ≡ b.number) × (at m v.of_type ≡ b.of_type) × (is_moved v.of_type ≡ b.is_hidden) × IsHomed m v.region b.life
IsNewest m vs b rest = vs ≡ rest

-- Says that the locals of the scope at run time are those of the typing context.
abbrev pub IsScope : Lives → List LocalInScope → List InScope → Type 0
IsScope m vs [] = vs ≡ []
IsScope m vs (b ∷ bs) = (rest : List LocalInScope) × IsNewest m vs b rest × IsScope m rest bs

-- Says that the index of a scope entry that is a local is below n.
abbrev pub IsBelow : ℕ → InScope → Type 0
IsBelow n (Variable b) = b.number < n
IsBelow n b = Unit {0}

abbrev pub AreBelow : ℕ → List InScope → Type 0
AreBelow n [] = Unit {0}
AreBelow n (b ∷ bs) = IsBelow n b × AreBelow n bs

-- Says that each local has its object, and that each loop counter of an array has a value.
abbrev pub HasMeaning : (locals counters : ℕ → Option ℕ) → InScope → Type 0
HasMeaning locals counters (Variable b) = locals b.number ≡ Some b.object
HasMeaning locals counters (Level l) = (index : ℕ) × (counters l ≡ Some index)
HasMeaning locals counters b = Unit {0}

abbrev pub IsBound : (locals counters : ℕ → Option ℕ) → List InScope → Type 0
IsBound locals counters [] = Unit {0}
IsBound locals counters (b ∷ bs) = HasMeaning locals counters b × IsBound locals counters bs

-- Says that the objects of locals are variables of the right types. Region variables denote lifetimes that the typing of the
-- heap state contains, and the lifetimes of live region variables are open.
abbrev pub IsOfVariable : Typing → InScope → Type 0
IsOfVariable g (Variable b) = (slice_get g.objects b.object ≡ Some (local_type g.depth b)) × IsOpenIn g b.life
IsOfVariable g (Names number life live) = IsKnownLife g life × (live ≡ true → IsOpenIn g life)
IsOfVariable g (Instance these live) = (n : ℕ) → IsKnownLife g (these n) × (live n ≡ true → IsOpenIn g (these n))
IsOfVariable g b = Unit {0}

abbrev pub AreVariables : Typing → List InScope → Type 0
AreVariables g [] = Unit {0}
AreVariables g (b ∷ bs) = IsOfVariable g b × AreVariables g bs

-- Says that a lifetime lasts to the end of one of the regions that are closed when the stack is unwound, or for ever.
abbrev pub IsLasting : List ℕ → Life → Type 0
IsLasting regions (OfRegion number around lent) = (OfRegion number around lent ≡ heap_life) ⊎ IsEndOf (number ∷ around) regions
IsLasting regions (Kept a) = Unit {0}
IsLasting regions l = ⊥

-- Says that the lifetime in this entry of a scope has not ended, if the entry is marked as live.
abbrev pub IsLiveIn : List ℕ → InScope → Type 0
IsLiveIn regions (Variable b) = IsLasting regions b.life
IsLiveIn regions (Names number life live) = live ≡ true → IsLasting regions life
IsLiveIn regions (Instance these live) = (n : ℕ) → live n ≡ true → IsLasting regions (these n)
IsLiveIn regions b = Unit {0}

abbrev pub AreLiveIn : List ℕ → List InScope → Type 0
AreLiveIn regions [] = Unit {0}
AreLiveIn regions (b ∷ bs) = IsLiveIn regions b × AreLiveIn regions bs

-- The region of the innermost block, as the stack records it.
abbrev pub home_in : List Entry → ℕ
home_in [] = globals_number
home_in (CloseRegion region outer ∷ stack) = region
home_in (Caller outer ∷ stack) = globals_number
home_in (entry ∷ stack) = home_in stack

-- Says that the lifetimes of the live entries of a scope last at least until all stack entries above this stack are unwound.
abbrev pub LiveIn : List Entry → List InScope → Type 0
LiveIn stack bs = AreLiveIn (ends_of stack) bs × (home_of bs ≡ home_in stack)

-- Says that a scope entry may leave the scope before its block ends.
abbrev pub IsInner : InScope → Type 0
IsInner (Home region) = ⊥
IsInner b = Unit {0}

-- Says that the second scope is the first scope with newer entries of the same block added, if any.
pub data Within : (outer inner : List InScope) → Type 0 where
  itself : (bs : List InScope) → Within bs bs
  older : (b : InScope) (bs cs : List InScope) → IsInner b → Within bs cs → Within bs (b ∷ cs)

-- ---- flow

-- Says that a local is known to hold a value in this flow state.
abbrev pub IsSet : flow.State → ℕ → Type 0
IsSet f n = is_vacant (fullness f n) ≡ false

-- Says that a local is known to hold a value that is not lent in this flow state.
abbrev pub IsFullIn : flow.State → ℕ → Type 0
IsFullIn f n = is_full (fullness f n) ≡ true

abbrev pub HoldsIts : Typing → flow.State → InScope → Type 0
HoldsIts g f (Variable b) = (IsSet f b.number → IsFull g b.object) × (IsFullIn f b.number → IsHere g g.depth b.number b.object)
HoldsIts g f b = Unit {0}

abbrev pub AreSet : Typing → flow.State → List InScope → Type 0
AreSet g f [] = Unit {0}
AreSet g f (b ∷ bs) = HoldsIts g f b × AreSet g f bs

-- Says that the run satisfies the facts of a flow state about locals, so this flow state is reachable.
abbrev pub Holds : Typing → flow.State → List InScope → Type 0
Holds g f bs = (is_reached f ≡ true) × AreSet g f bs

-- Says that the facts of the first flow state imply those of the second.
pub record Implies (f h : flow.State) : Type 0 where
  pub reached : is_reached f ≡ true → is_reached h ≡ true
  pub set : (n : ℕ) → IsSet h n → IsSet f n
  pub full : (n : ℕ) → IsFullIn h n → IsFullIn f n

-- ---- exits of control

-- An enclosing loop: the flow states at its head, and at the `break` statements that leave it.
pub record LoopExit : Type 0 where
  pub place : Place
  pub head : flow.State
  pub breaks : flow.State

pub record Exits : Type 0 where
  pub loop : Option LoopExit
  -- The result type of the enclosing function.
  pub result : Option Ty
  -- The result type of the function as a run-time type, with the lifetimes of the caller.
  pub gives : RunValue
  -- the locals that declarations and statements have lent since the start of the enclosing loop's body
  pub locks : List ℕ
  -- The flow states that the catch clauses of enclosing `try` statements and the ends of enclosing loans require, innermost first.
  pub relied : Relied

-- Says that a function without a result returns no value.
abbrev pub HasResult : Option Ty → RunValue → Type 0
HasResult None r = r ≡ Void
HasResult (Some t) r = Unit {0}

abbrev pub loop_of : Option LoopExit → Option Loop
loop_of None = None
loop_of (Some l) = Some (record { place = l.place; head = l.head })

abbrev pub around : Exits → Around
around x = record { loop = loop_of x.loop; locks = x.locks }

-- The possible exits of control while one more local is lent; the end of the loan requires that this local is still lent.
abbrev pub lending : Exits → ℕ → Exits
lending x n = record x { locks = x.locks ++ n ∷ []; relied = Reached (only n) ∷ x.relied }

-- The possible exits of control inside the body of a `try` whose catch clauses begin with this flow state.
abbrev pub relying : Exits → flow.State → Exits
relying x f = record x { relied = f ∷ x.relied }

-- Says that if this scope entry is the local with the given index, it holds a value, and the given number identifies its object.
abbrev pub IsFullAt : Typing → (number object : ℕ) → InScope → Type 0
IsFullAt g n object (Variable b) = b.number ≡ n → IsFull g b.object × (b.object ≡ object)
IsFullAt g n object b = Unit {0}

abbrev pub AreFullAt : Typing → (number object : ℕ) → List InScope → Type 0
AreFullAt g n object [] = Unit {0}
AreFullAt g n object (b ∷ bs) = IsFullAt g n object b × AreFullAt g n object bs

-- Says that the joined flow state at the `break` statements so far implies the state after the loop.
abbrev pub AreBreaks : Option LoopExit → flow.State → Type 0
AreBreaks None b = Unit {0}
AreBreaks (Some l) b = Implies b l.breaks

abbrev pub is_loop : Option LoopExit → Bool
is_loop None = false
is_loop (Some l) = true

-- ---- lifetimes that the regions of a context denote

-- Says that live regions denote lifetimes that have not ended, and that the outlives constraints hold between lifetimes.
pub record AreNamed (c : RegionContext) (these : ℕ → Life) (live : ℕ → Bool) : Type 0 where
  pub there : (r : Region) → Contains (live_regions c.live c.opened) r → IsThereBy live r
  pub agrees : (a b : Region) → IsGiven c a b → Outlasts (lives_of these a) (lives_of these b)
  -- No region except the unique region outlives the unique region.
  pub plain : (a : Region) → IsGiven c a regions.Unique → ⊥

-- Says that the region variables denote lifetimes that satisfy the region context.
abbrev pub Stand : RegionContext → List InScope → Type 0
Stand c bs = AreNamed c (λ n. life_named bs n) (λ n. is_live_named bs n)

-- Says that the variables of the innermost block are stored in the region that this region variable denotes.
abbrev pub IsHome : (region : ℕ) → List InScope → Type 0
IsHome region bs = IsNumber (life_named bs region) (home_of bs) × (is_live_named bs region ≡ true)

abbrev pub AreKnownLocals : ℕ → List LocalInScope → Type 0
AreKnownLocals n [] = Unit {0}
AreKnownLocals n (v ∷ vs) = (AllIn (IsKnown n) v.of_type × (v.region < n)) × AreKnownLocals n vs

-- Says that all region variables that a typing context mentions have indices below n.
pub record AreKnown (n : ℕ) (c : RegionContext) (vs : List LocalInScope) (result : Option Ty) : Type 0 where
  pub live : (r : Region) → Contains (live_regions c.live c.opened) r → IsKnown n r
  pub pairs : (a b : Region) → Contains c.written (a, b) → IsKnown n a × IsKnown n b
  pub locals : AreKnownLocals n vs
  pub gives : AllInValue (IsKnown n) (result_type result)

-- Says that a typing context is valid for a tree in a function of this program, given the possible exits of control and the scope.
pub record IsContext (p : Program) (x : Exits) (bs : List InScope) (c : Context) : Type 0 where
  pub globals : c.globals ≡ map (λ (g : GlobalVariable). g.of_type) p.globals
  pub functions : c.functions ≡ map signature_of p.functions
  pub structs : c.structs ≡ p.structs
  pub result : c.result ≡ x.result
  pub gives : read_value bs (result_type c.result) ≡ x.gives
  pub loop : c.in_loop ≡ true → is_loop x.loop ≡ true
  pub scope : IsScope (lives_in bs) c.locals bs
  pub below : AreBelow c.next_local bs
  pub counters : (level : ℕ) → level < c.counters → IsAmong (Level level) bs
  pub known : AreKnown c.next_region c.regions c.locals c.result
  pub regions : Stand c.regions bs
  pub home : IsHome c.region bs

-- ---- programs

-- the lifetimes that the region parameters of a struct denote
abbrev pub lives_among : List Life → Lives
lives_among ls = lives_of (λ n. slice_index_or ls n heap_life)

-- Says that the typing of the heap state agrees with the program. The first objects of the heap state are the
-- program's globals, and the structs of the heap state have the cells of their fields.
pub record KnowsProgram (g : Typing) (p : Program) : Type 0 where
  pub globals : (number : ℕ) (t : Ty) → slice_get (map (λ (v : GlobalVariable). v.of_type) p.globals) number ≡ Some t
      → (slice_get g.objects number ≡ Some (global_type (at as_heap t))) × IsFull g number × IsDeclarable 0 t
  pub structs : (number : ℕ) (s : StructType) (ls : List Life) → slice_get p.structs number ≡ Some s → length ls ≡ s.parameters
      → g.fields number ls ≡ Some (map (at (lives_among ls)) s.fields)
  -- A struct type has as many lifetimes as the struct has region parameters.
  pub counts : (number : ℕ) (s : StructType) (ls : List Life) (ts : List RunTy) → slice_get p.structs number ≡ Some s → g.fields number ls ≡ Some ts → length ls ≡ s.parameters
  -- No field of a struct is the key of a dynamic region.
  pub plain : (number : ℕ) (s : StructType) → slice_get p.structs number ≡ Some s → (field : ℕ) (t : Ty) → slice_get s.fields field ≡ Some t → is_key t ≡ false
  -- No outlives constraint of a function mentions the unique region.
  pub constraints : (number : ℕ) (h : Function) → slice_get p.functions number ≡ Some h → AreConstraints h.variables h.constraints
  -- The field types of a struct mention only the struct's region parameters.
  pub fields : (number : ℕ) (s : StructType) → slice_get p.structs number ≡ Some s → (field : ℕ) (t : Ty) → slice_get s.fields field ≡ Some t → IsDeclarable s.parameters t
