-- This file defines judgements of typed trees with the flow states before and after them. Each entry of the control stack stores
-- both the typing judgement and the flow judgement of its tree.
use Rattle.std.specs.Prelude.{◌≡◌, ◌⊎◌, ℕ, suc, true, false, List, [], Option, Some, None}
use mathlib.Core.Logic.{inl, inr}
use Rattle.cyc_syntax.specs.declared.tree.PointerKind.{PointerKind}
use Rattle.cyc_types.specs.declared.region.Region.{Region}
use Rattle.cyc_types.specs.Types.{Ty, ValueType}
use Rattle.cyc_types.specs.TypedTrees.{Expression, Dereference, Initial, Arguments, Operations, Side, Statement, Items, Clauses, Function, Program}
use Rattle.cyc_types.specs.Rules.{AllKept, Derives}
use Rattle.cyc_types.specs.typing.WellTyped.{Context, WellTyped, IsPeek, IsCell, IsSide, ArePassed, IsMade, IsChain, WellTypedStatement, WellTypedItems, WellTypedClauses, IsWellTypedFunction}
use Rattle.cyc_types.specs.flow.States as flow
use Rattle.cyc_types.specs.flow.States.{Unreached, Full, with_each, is_reached}
use Rattle.cyc_types.specs.flow.Expressions.{peek_of, rule, rule_place, rule_initial, rule_arguments, rule_operations}
use Rattle.cyc_types.specs.flow.Statements.{rule_side, side_demanded, locks_of, rule_statement, rule_items, rule_clauses}
use Rattle.cyc_types.specs.flow.Programs.{start_of, in_function}
use Rattle.cyc_soundness.specs.inside.Classes.{Relied, InExpression, InPlace, InSide, InInitial, InArguments, InOperations, InStatement, InItems, InClauses}
use Rattle.cyc_soundness.specs.inside.Frames.{Implies, Exits, around, AreBreaks}

-- The local that an expression reads without moving its value, if the expression is such a read (a peek).
abbrev pub seen_by : {A B : Type 0} → Expression → A ⊎ B → Option ℕ
seen_by a (inl well) = None
seen_by a (inr peek) = peek_of a

-- The typing and flow judgement of an expression, which may be a peek (a read that does not move a local's value).
pub record Evaluates (q : Relied) (c : Context) (a : Expression) (f : flow.State) (t : ValueType) (h : flow.State) : Type 0 where
  pub waiting : List ℕ
  pub typed : WellTyped c a t ⊎ IsPeek c a t
  pub flows : Derives (rule waiting a f) h
  pub kept : InExpression q a

-- The typing and flow judgement of an expression whose value is used, not only peeked at (read without being moved).
abbrev pub EvaluatesWhole : Relied → Context → Expression → flow.State → ValueType → flow.State → Type 0
EvaluatesWhole q c a f t h = (evaluates : Evaluates q c a f t h) × (seen_by a evaluates.typed ≡ None)

pub record Computes (q : Relied) (c : Context) (left : ValueType) (os : Operations) (f : flow.State) (t : Ty) (h : flow.State) : Type 0 where
  pub waiting : List ℕ
  pub typed : IsChain c left os t
  pub flows : Derives (rule_operations waiting os f) h
  pub kept : InOperations q os

pub record Passes (q : Relied) (c : Context) (ts : List Ty) (as' : Arguments) (f h : flow.State) : Type 0 where
  pub waiting : List ℕ
  pub typed : ArePassed c ts as'
  pub flows : Derives (rule_arguments waiting as' f) h
  pub kept : InArguments q as'

-- The typing and flow judgement of a memory access of this type, through a pointer into this region.
pub record Locates (q : Relied) (c : Context) (d : Dereference) (f : flow.State) (t : Ty) (r : Region) (h : flow.State) : Type 0 where
  pub waiting : List ℕ
  pub typed : IsCell c d t r
  pub flows : Derives (rule_place waiting d f) h
  pub kept : InPlace q d

-- The typing and flow judgement of the initial values of an object of this type; k is the kind (nullable, non-null
-- or fat) of the pointer to it.
pub record Makes (q : Relied) (c : Context) (i : Initial) (k : PointerKind) (t : Ty) (f h : flow.State) : Type 0 where
  pub waiting : List ℕ
  pub typed : IsMade c i k t
  pub flows : Derives (rule_initial waiting i f) h
  pub kept : InInitial q i

-- The typing and flow judgement of the left or right operand of a swap of this type; the resulting flow state is that after both
-- operands were evaluated.
pub record Finds (q : Relied) (c : Context) (y : Side) (f : flow.State) (t : Ty) (h : flow.State) : Type 0 where
  pub waiting : List ℕ
  pub typed : IsSide c y t
  pub flows : Derives (rule_side waiting y f) h
  pub used : AllKept (side_demanded waiting y h)
  pub kept : InSide q y

-- The typing and flow judgement of a statement, with the flow state after it and the flow state at its `break` statements.
pub record Executes (x : Exits) (c : Context) (s : Statement) (f h : flow.State) : Type 0 where
  pub before : flow.State
  pub following : flow.State
  pub typed : WellTypedStatement c s
  pub flows : Derives (rule_statement (around x) s (record { now = f; breaks = before })) (record { now = h; breaks = following })
  pub breaks : AreBreaks x.loop following
  pub kept : InStatement x.relied c.next_region s

-- The typing and flow judgement of the remaining declarations and statements of a block. At the end of the block, the
-- locals that these declarations and statements have lent hold values that are no longer lent.
pub record Continues (x : Exits) (c : Context) (js : Items) (f h : flow.State) : Type 0 where
  pub before : flow.State
  pub following : flow.State
  pub ending : flow.State
  pub typed : WellTypedItems c js
  pub flows : Derives (rule_items (around x) js (record { now = f; breaks = before })) (record { now = ending; breaks = following })
  pub breaks : AreBreaks x.loop following
  pub kept : is_reached f ≡ true → InItems x.relied c.next_region js
  pub ends : Implies (with_each Full (locks_of js) ending) h

-- The typing and flow judgement of catch clauses that begin with this flow state.
pub record Catches (x : Exits) (c : Context) (start : flow.State) (cs : Clauses) (f h : flow.State) : Type 0 where
  pub before : flow.State
  pub following : flow.State
  pub typed : WellTypedClauses c cs
  pub flows : Derives (rule_clauses (around x) start cs (record { now = f; breaks = before })) (record { now = h; breaks = following })
  pub breaks : AreBreaks x.loop following
  pub kept : InClauses x.relied c.next_region cs

-- Says that the rules accept a function; `end` is the flow state after the function's body.
pub record IsAccepted (p : Program) (h : Function) (end : flow.State) : Type 0 where
  pub typed : IsWellTypedFunction p h
  pub breaks : flow.State
  pub flows : Derives (rule_items in_function h.body (record { now = start_of h; breaks = Unreached })) (record { now = end; breaks = breaks })
  pub ends : (t : Ty) → h.result ≡ Some t → is_reached end ≡ false
  pub kept : InItems [] (suc h.variables) h.body
