-- This file defines the typing of run states. Each entry of the control stack is typed by the value for which it waits and the value
-- that it passes on. The typing has the scope as a parameter; a stack entry may drop the newest locals from the scope.
use Rattle.std.specs.Prelude.{◌≡◌, ℕ, zero, suc, ◌+◌, ◌≤◌, Bool, true, false, List, [], ◌∷◌, length, map, Option, Some, None, slice_get}
use Rattle.cyc_syntax.specs.declared.tree.PointerKind.TheVariants as marks
use Rattle.cyc_types.specs.declared.region.Region.{Region}
use Rattle.cyc_types.specs.declared.typed.Kind.TheVariants as kinds
use Rattle.cyc_types.specs.Types.{Ty, ValueType, result_type}
use Rattle.cyc_types.specs.Types as types
use Rattle.cyc_types.specs.TypedTrees.{Function, Program}
use Rattle.cyc_types.specs.typing.Tests.{is_struct}
use Rattle.cyc_types.specs.typing.WellTyped.{LocalInScope, Context, body_context, with_local, parameters_in_scope}
use Rattle.cyc_types.specs.flow.States as flow
use Rattle.cyc_types.specs.flow.States.{Full, with_fullness, with_each, is_reached}
use Rattle.cyc_types.specs.flow.Expressions.{peek_after}
use Rattle.cyc_meaning.specs.Values.{Operand}
use Rattle.cyc_meaning.specs.Values as values
use Rattle.cyc_meaning.specs.State.{Write, Entry, Needs, NeedsPlace, Discard, Rest, Join, Loop, CloseRegion, CloseLexical, EndLoan, Handler, Caller, Main, Environment, World, Focus, Evaluating, Locating, Given, GivenPlace, Executing, Proceeding, Calling, Entering, Binding, Naming, Writing}
use Rattle.cyc_meaning.specs.State.{Swapping, Beginning, Repeating, Breaking, Continuing, Returning, Throwing, Catching, State, Running, Ended, Dead, Wrong}
use Rattle.cyc_meaning.specs.Allocation.{writes_from}
use Rattle.cyc_soundness.specs.inside.Lives.{Life, RunTy, RunValue, Value, looked}
use Rattle.cyc_soundness.specs.inside.Lives as lives
use Rattle.cyc_soundness.specs.inside.Worlds.{OfLocal, Settled, Thing, Holder, Hand, pointer_at, thing_of, Owns, ClaimsPart, ClaimsAlone, IsHere, ObjectType, Typing, variable_type, IsFilled, IsFull, HasType, IsResult, AreOperands, IsNewOwner, IsTyped, Away}
use Rattle.cyc_soundness.specs.inside.Frames.{InScope, Variable, Names, Instance, Home, lives_in, read, read_value, IsThere, IsScope, AreBelow, IsBound, AreVariables, LiveIn, Within, Holds, Implies, LoopExit, Exits, HasResult, lending, relying, AreFullAt, is_loop, Stand, IsHome, IsContext}
use Rattle.cyc_soundness.specs.inside.Frames.{KnowsProgram}
use Rattle.cyc_soundness.specs.inside.Judgements.{seen_by, Evaluates, Locates, Executes, Continues, Catches, IsAccepted}
use Rattle.cyc_soundness.specs.inside.Awaited.{Want, Nothing, Val, PlaceOf, Go, relied_at, turned, regions_at_call, IsCalled, IsNew, inside, IsLoop, Repeats, Waits, WaitsPlace, IsArray, AreClaimed, AreGiven, operands_in, Comes, Keeps, IsSpot, KeepsPlace, IsRead, AreSwapped}

-- ---- the control stack

-- Says that the end of a function with a result is unreachable.
abbrev pub IsBlocked : Option Ty → flow.State → Type 0
IsBlocked None f = Unit {0}
IsBlocked (Some t) f = is_reached f ≡ false

-- Says that this variable has lent its value in the newest loan, and that no pointer may point to this variable.
abbrev pub IsLentOut : Typing → (lent loan : ℕ) → RunTy → (object : ℕ) → Type 0
IsLentOut g lent j t object = (l : Life) × (slice_get g.objects object ≡ Some (variable_type t l true (OfLocal g.depth lent))) × (g.here object ≡ Away j)

abbrev pub IsStack : Program → Typing → Exits → List InScope → Want → List Entry → Type 0
IsStack p g x bs Nothing [] = g.pending ≡ Settled
IsStack p g x bs (Val r f) (Needs a ∷ k) =
    (ts : List RunTy) × (cs : List InScope) × (next : Want) × Waits p x (relied_at x.relied k) bs a ts r f cs next × Keeps g (operands_in k) a ts × IsStack p g x cs next k
IsStack p g x bs (PlaceOf peek t l f) (NeedsPlace a ∷ k) = (next : Want) × WaitsPlace p x (relied_at x.relied k) bs a peek t l f next × KeepsPlace p g (operands_in k) bs a t f × IsStack p g x bs next k
IsStack p g x bs (Val r f) (Discard ∷ k) = IsStack p g x bs (Go f) k
IsStack p g x bs (Go f) (Discard ∷ k) = IsStack p g x bs (Go f) k
-- The locals that a block declares are out of scope after the items of the block.
IsStack p g x bs (Go f) (Rest js ∷ k) =
    (cs : List InScope) × (c : Context) × (h : flow.State) × Within cs bs × IsContext p x bs c × Continues x c js f h × IsStack p g x cs (Go h) k
IsStack p g x bs (Go f) (Join ∷ k) = (h : flow.State) × Implies f h × IsStack p g x bs (Go h) k
IsStack p g x bs (Go f) (Loop condition body ∷ k) =
    (y : Exits) × (l : LoopExit) × (v : ValueType) × (u h : flow.State) × (x ≡ inside y l) × IsLoop p y bs l condition body v u h × Implies f l.head × IsStack p g y bs (Go h) k
-- The region of a block is out of scope after the end of the block, and so is a lexical region.
IsStack p g x bs (Go f) (CloseRegion region home ∷ k) =
    (cs : List InScope) × (number : ℕ) × (l : Life) × (live : Bool) × (h : flow.State) × (bs ≡ Home region ∷ Names number l live ∷ cs) × Implies f h × LiveIn k cs × IsStack p g x cs (Go h) k
IsStack p g x bs (Go f) (CloseLexical region ∷ k) = (h : flow.State) × Implies f h × LiveIn k bs × IsStack p g x bs (Go h) k
-- After the end of a loan, the resource (key or unique pointer) that was on loan is no longer lent.
IsStack p g x bs (Go f) (EndLoan lent ∷ k) =
    (y : Exits) × (h : flow.State) × (j : ℕ) × (t : RunTy) × (object : ℕ) × (x ≡ lending y lent) × (g.loans ≡ suc j) × IsLentOut g lent j t object × Implies (with_fullness Full f lent) h × AreFullAt g lent object bs
    × AreVariables (record g { loans = j }) bs
    × IsStack p (record g { loans = j }) y bs (Go h) k
IsStack p g x bs (Go f) (Handler cs ∷ k) =
    (y : Exits) × (c : Context) × (start h : flow.State) × (x ≡ relying y start) × IsContext p y bs c × Holds g start bs × Catches y c start cs f h × Implies f h × IsStack p g y bs (Go h) k
-- After a call, the caller's locals are unchanged, and hold their values.
IsStack p g x bs (Go f) (Caller e ∷ k) =
    (y : Exits) × (cs : List InScope) × (h : flow.State) × (d : ℕ) × (g.depth ≡ suc d) × (is_loop x.loop ≡ false) × IsBlocked x.result f × HasResult x.result x.gives × IsBound e.locals e.counters cs
    × AreVariables (record g { depth = d }) cs × LiveIn k cs × Holds (record g { depth = d }) h cs × IsStack p (record g { depth = d }) y cs (Val x.gives h) k
IsStack p g x bs (Go f) (Main ∷ k) = (is_loop x.loop ≡ false) × (x.result ≡ Some types.Int) × (x.gives ≡ Value lives.Int) × (is_reached f ≡ false) × IsStack p g x bs Nothing k
IsStack p g x bs w k = ⊥

-- ---- new objects

-- Says that the operands fit the types of an object's cells from offset `offset` on.
abbrev pub AreNext : Typing → (offset : ℕ) → List RunTy → List Operand → Type 0
AreNext g zero ts vs = AreOperands g ts vs
AreNext g (suc i) [] vs = ⊥
AreNext g (suc i) (t ∷ ts) vs = AreNext g i ts vs

-- Says that the operands for the cells from `offset` on are on the stack, from stack index `place` on.
abbrev pub AreNextGiven : (own : Thing → Holder) → (place offset : ℕ) → List RunTy → List Operand → Type 0
AreNextGiven own i zero ts vs = AreGiven own i ts vs
AreNextGiven own i (suc o) [] vs = Unit {0}
AreNextGiven own i (suc o) (t ∷ ts) vs = AreNextGiven own i o ts vs

-- Says that an object whose cells have the types of this object type is a complete value of this run-time type.
abbrev pub IsWhole : Typing → ObjectType → RunTy → Type 0
IsWhole g y (lives.Struct n ls) = g.fields n ls ≡ Some y.cells
IsWhole g y t = y.cells ≡ t ∷ []

-- An object under construction, whose first cells hold values. The remaining writes fill the other cells of the object under
-- construction; after the last write, the pointer to the object becomes the result.
pub record IsMaking (g : Typing) (hand : ℕ) (writes : List Write) (v : Operand) (t : RunTy) (l : Life) : Type 0 where
  pub object : ℕ
  pub offset : ℕ
  pub operands : List Operand
  pub of_type : ObjectType
  pub these : writes ≡ writes_from object offset operands
  pub handed : v ≡ record { kind = kinds.NonNull; value = values.Thin object 0 }
  pub there : slice_get g.objects object ≡ Some of_type
  pub shown : of_type.is_hidden ≡ false
  pub life : of_type.life ≡ l
  pub filled : IsFilled g object offset
  pub rest : AreNext g offset of_type.cells operands
  pub whole : IsWhole g of_type t
  -- The operands for the cells of an object that are still empty are on the stack, and above them is the pointer to the object.
  pub place : ℕ
  pub least : hand ≤ place
  pub given : AreNextGiven g.own place offset of_type.cells operands
  pub owned : Owns g.own (Hand (place + length operands)) (pointer_at l object)

-- ---- states

-- Says that a function with a result returns a value of its type, and that a function without a result returns no value.
abbrev pub IsReturn : Typing → (below : ℕ) → Option Ty → RunValue → Option Operand → Type 0
IsReturn g i None r None = Unit {0}
IsReturn g i (Some t) r (Some v) = IsResult g r v × ClaimsAlone g.own i r v.value
IsReturn g i result r v = ⊥

-- Says that a scope entry that is a local holds a value.
abbrev pub IsFilledIn : Typing → InScope → Type 0
IsFilledIn g (Variable b) = IsFull g b.object
IsFilledIn g b = Unit {0}

abbrev pub AreFull : Typing → List InScope → Type 0
AreFull g [] = Unit {0}
AreFull g (b ∷ bs) = IsFilledIn g b × AreFull g bs

-- Says that a scope entry that is a local owns the resource (key or unique pointer) that its own value represents.
abbrev pub IsOwnIn : Typing → InScope → Type 0
IsOwnIn g (Variable b) = IsHere g g.depth b.number b.object
IsOwnIn g b = Unit {0}

abbrev pub AreOwn : Typing → List InScope → Type 0
AreOwn g [] = Unit {0}
AreOwn g (b ∷ bs) = IsOwnIn g b × AreOwn g bs

-- Says that the exits are those at the top level of a function's body, outside loops.
abbrev pub IsBody : Exits → List InScope → Function → Type 0
IsBody x bs h = (x.loop ≡ None) × (x.locks ≡ []) × (x.relied ≡ []) × (x.result ≡ h.result) × (read_value bs (result_type h.result) ≡ x.gives)

abbrev pub IsFocus : Program → Typing → Exits → List InScope → Focus → List Entry → Type 0
IsFocus p g x bs (Evaluating a) k =
    (c : Context) × (t : ValueType) × (f h : flow.State) × IsContext p x bs c × Holds g f bs × (evaluates : Evaluates (relied_at x.relied k) c a f t h) × IsStack p g x bs (Val (looked (seen_by a evaluates.typed) (read_value bs t)) h) k
IsFocus p g x bs (Locating d) k =
    (c : Context) × (t : Ty) × (r : Region) × (f h : flow.State) × IsContext p x bs c × Holds g f bs × Locates (relied_at x.relied k) c d f t r h × IsStack p g x bs (PlaceOf (peek_after d) (read bs t) (lives_in bs r) h) k
IsFocus p g x bs (GivenPlace place) k =
    (peek : Option ℕ) × (t : RunTy) × (l : Life) × (f : flow.State) × Holds g f bs × HasType g (lives.Pointer marks.NonNull t l) place × ClaimsPart g (operands_in k) peek (thing_of (lives.Pointer marks.NonNull t l) place)
    × IsStack p g x bs (PlaceOf peek t l f) k
IsFocus p g x bs (Writing writes (Some v)) k =
    (t : RunTy) × (r : Region) × (f : flow.State) × Holds g f bs × IsThere bs r × IsMaking g (operands_in k) writes v t (lives_in bs r) × IsStack p g x bs (Val (Value (lives.Pointer marks.NonNull t (lives_in bs r))) f) k
IsFocus p g x bs (Writing writes None) k = (f : flow.State) × Holds g f bs × AreSwapped p g (operands_in k) bs f writes × IsStack p (record g { pending = Settled }) x bs (Go f) k
IsFocus p g x bs (Swapping kind left right before) k =
    (t : Ty) × (f : flow.State) × Holds g f bs × (kind ≡ values.kind_of t) × (is_struct t ≡ false) × IsSpot p g bs t f left × IsSpot p g bs t f right × IsRead g left (read bs t) before × IsStack p g x bs (Go f) k
IsFocus p g x bs (Beginning owner count level kind element) k =
    (c : Context) × (t : Ty) × (r : Region) × (f : flow.State) × IsContext p x bs c × Holds g f bs × IsThere bs r × IsNewOwner (lives_in bs r) owner × Repeats (relied_at x.relied k) c level kind element t f
    × IsStack p g x bs (Val (Value (lives.Pointer marks.Fat (read bs t) (lives_in bs r))) f) k
IsFocus p g x bs (Repeating object count index level kind element) k =
    (c : Context) × (t : Ty) × (r : Region) × (f : flow.State) × IsContext p x bs c × Holds g f bs × IsThere bs r × Repeats (relied_at x.relied k) c level kind element t f
    × IsArray g (read bs t) (lives_in bs r) object count index × Owns g.own (Hand (operands_in k)) (pointer_at (lives_in bs r) object) × IsStack p g x bs (Val (Value (lives.Pointer marks.Fat (read bs t) (lives_in bs r))) f) k
IsFocus p g x bs (Given v) k = (r : RunValue) × (f : flow.State) × Holds g f bs × IsResult g r v × Comes g r v k × IsStack p g x bs (Val r f) k
IsFocus p g x bs (Executing s) k =
    (c : Context) × (f h : flow.State) × IsContext p x bs c × Holds g f bs × Executes x c s f h × IsStack p g x bs (Go h) k
IsFocus p g x bs Proceeding k = (f : flow.State) × Holds g f bs × IsStack p g x bs (Go f) k
IsFocus p g x bs (Calling callee arguments) k =
    (ts : List RunTy) × (r : RunValue) × (f : flow.State) × Holds g f bs × IsCalled p bs callee (turned ts []) r × AreOperands g ts arguments × AreClaimed g.own (operands_in k) ts arguments × IsStack p g x bs (Val r f) k
IsFocus p g x bs (Entering h arguments) k =
    (end : flow.State) × (these : ℕ → Life) × (live : ℕ → Bool) × IsAccepted p h end × IsBody x bs h × (bs ≡ Instance these live ∷ []) × Stand (regions_at_call h) bs
    × AreOperands g (map (read bs) h.parameters) arguments × AreGiven g.own (operands_in k) (map (read bs) h.parameters) arguments × IsStack p g x bs (Go end) k
IsFocus p g x bs (Binding number ts arguments body) k =
    (h : Function) × (end : flow.State) × (vs : List LocalInScope) × (cs : List InScope) × Within cs bs × IsAccepted p h end × IsBody x bs h × (body ≡ h.body) × (parameters_in_scope ts number vs ≡ parameters_in_scope h.parameters 0 [])
    × (number + length ts ≡ length h.parameters) × AreOperands g (map (read bs) ts) arguments × IsScope (lives_in bs) vs bs × AreBelow number bs × AreFull g bs
    × Stand (body_context p h).regions bs × IsHome 0 bs × ((i : ℕ) × (operands_in k ≤ i) × AreGiven g.own i (map (read bs) ts) arguments) × AreOwn g bs × IsStack p g x cs (Go end) k
IsFocus p g x bs (Naming number v js) k =
    (c : Context) × (is_place : Bool) × (t : Ty) × (cs : List InScope) × (f h : flow.State) × Within cs bs × IsContext p x bs c × Holds g f bs × IsNew c t × (number ≡ c.next_local)
    × IsResult g (Value (read bs t)) v × Comes g (Value (read bs t)) v k × Continues x (with_local is_place t c) js (with_fullness Full f number) h × IsStack p g x cs (Go h) k
IsFocus p g x bs Breaking k = (l : LoopExit) × (f h : flow.State) × (x.loop ≡ Some l) × Holds g f bs × Implies (with_each Full x.locks f) l.breaks × IsStack p g x bs (Go h) k
IsFocus p g x bs Continuing k = (l : LoopExit) × (f h : flow.State) × (x.loop ≡ Some l) × Holds g f bs × Implies (with_each Full x.locks f) l.head × IsStack p g x bs (Go h) k
IsFocus p g x bs (Returning v) k = (f : flow.State) × IsReturn g (operands_in k) x.result x.gives v × IsStack p g x bs (Go f) k
IsFocus p g x bs (Throwing tag value) k = (w : Want) × IsStack p g x bs w k
IsFocus p g x bs (Catching tag value cs) k =
    (c : Context) × (start f h : flow.State) × IsContext p x bs c × Holds g start bs × Catches x c start cs f h × IsStack p g x bs (Go h) k

pub record IsRunning (p : Program) (focus : Focus) (k : List Entry) (e : Environment) (w : World) : Type 0 where
  pub typing : Typing
  pub exits : Exits
  pub locals : List InScope
  pub objects : IsTyped typing w.regions w.objects
  pub globals : KnowsProgram typing p
  pub bound : IsBound e.locals e.counters locals
  pub variables : AreVariables typing locals
  pub live : LiveIn k locals
  pub stands : IsFocus p typing exits locals focus k

-- Says that the heap state, scope and stack of a run state are well-typed, so the state is neither dead (freed memory accessed) nor
-- wrong. The well-typedness of the run state is the invariant of the soundness proof.
abbrev pub IsWell : Program → State → Type 0
IsWell p (Running focus k e w) = IsRunning p focus k e w
IsWell p (Ended ending output input) = Unit {0}
IsWell p (Dead output input) = ⊥
IsWell p (Wrong output input) = ⊥
