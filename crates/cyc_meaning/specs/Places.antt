-- The cells that a pointer points to: `*e`, `e->f` and `e[i]`. The pointer is checked for null and bounds when the expression for the
-- cell is evaluated. On the left of `=`, this check happens before the right side is evaluated. The pointer in the operand of `&` is
-- also checked for null and bounds (this project's own choice).
use Rattle.std.specs.Prelude.{ℕ, ◌==◌, ◌&&◌, if◌then◌else◌, List, ◌∷◌, map, Option, Some, None, slice_get, true}
use Rattle.cyc_types.specs.declared.typed.Kind.{Kind}
use Rattle.cyc_types.specs.declared.typed.Kind.TheVariants as kinds
use Rattle.cyc_types.specs.declared.typed.PointerOperator.TheVariants as operators
use Rattle.cyc_types.specs.TypedTrees.{Expression, Dereference, Target, Member, Element, peeked, Convert, StructType, Program}
use Rattle.cyc_meaning.specs.Values.{Value, Thin, Operand, kind_of, kinds_of, is_kind, are_kinds}
use Rattle.cyc_meaning.specs.Pointers.{pointer_result, Reach, At, Stops, Nowhere, followed}
use Rattle.cyc_meaning.specs.State.{Object, World, cell_at, Environment, ConvertTo, StoreCell, Follow, FollowMember, Index, Advance, AwaitingPlace, LoadFrom, TakeAddress, StoreTo, SwapLeft, SwapRight, Entry, Needs, NeedsPlace, Evaluating, GivenPlace, Throwing, State, Running}
use Rattle.cyc_meaning.specs.Parts.{wrong, gives, computed, loaded, target_of, target_by, leads_to}
use Rattle.cyc_meaning.specs.Swaps.{finds_right, both_places}

-- ---- evaluating a place

abbrev pub arrives : Reach → List Entry → Environment → World → State
arrives (At object offset) stack e w = Running (GivenPlace (Thin object offset)) stack e w
arrives (Stops tag) stack e w = Running (Throwing tag 0) stack e w
arrives Nowhere stack e w = wrong w

-- Evaluates `*e`: an access through null raises an exception, and so does an access through an out-of-bounds fat pointer.
abbrev pub follows : (pointer : Kind) → (target : Option Kind) → Operand → List Entry → Environment → World → State
follows pointer target operand stack e w =
    if is_kind operand.kind pointer && leads_to w target (followed operand.value) then arrives (followed operand.value) stack e w else wrong w

-- Returns the cell of `e->f`, the field with the given index, if the object's cells have the representation kinds of the struct's fields.
abbrev pub field_of : Option Object → (object offset : ℕ) → (fields : List Kind) → (field : ℕ) → Reach
field_of None object offset fields field = Nowhere
field_of (Some x) object offset fields field = if offset == 0 && are_kinds (kinds_of x.cells) fields then At object field else Nowhere

abbrev pub member_of : World → Reach → (fields : List Kind) → (field : ℕ) → Reach
member_of w (At object offset) fields field = field_of (slice_get w.objects object) object offset fields field
member_of w reach fields field = reach

abbrev pub follows_member : (pointer : Kind) → (fields : List Kind) → (field : ℕ) → Operand → List Entry → Environment → World → State
follows_member pointer fields field operand stack e w =
    if is_kind operand.kind pointer then arrives (member_of w (followed operand.value) fields field) stack e w else wrong w

-- Evaluates `e[i]` as an access to `*(e + i)`. The operands are evaluated, then the index is added, then the access is checked.
abbrev pub indexes : (peek : Option ℕ) → (target : Option Kind) → (index : Expression) → Operand → List Entry → Environment → World → State
indexes peek target index base stack e w =
    if is_kind base.kind kinds.Fat then Running (Evaluating index) (Needs (Advance peek target base) ∷ stack) e w else wrong w

abbrev pub advances : (target : Option Kind) → (base index : Operand) → List Entry → Environment → World → State
advances target base index stack e w =
    computed kinds.Fat (pointer_result operators.AddFat base.value index.value) (Needs (Follow kinds.Fat target) ∷ stack) e w

abbrev pub locates_member : Option StructType → (pointer : Kind) → Expression → (field : ℕ) → List Entry → Environment → World → State
locates_member (Some s) pointer a field stack e w =
    Running (Evaluating a) (Needs (FollowMember pointer (map kind_of s.fields) field) ∷ stack) e w
locates_member None pointer a field stack e w = wrong w

abbrev pub step_locating : Program → Dereference → List Entry → Environment → World → State
step_locating program (Target pointer a t) stack e w = Running (Evaluating a) (Needs (Follow pointer (target_of t)) ∷ stack) e w
step_locating program (Member pointer a s field t) stack e w = locates_member (slice_get program.structs s) pointer a field stack e w
step_locating program (Element a i t) stack e w = Running (Evaluating a) (Needs (Index (peeked (Element a i t)) (target_of t) i) ∷ stack) e w

-- ---- continuations that receive a place

abbrev pub loaded_at : Kind → (place : Value) → List Entry → Environment → World → State
loaded_at kind (Thin object offset) stack e w = loaded kind (cell_at w object offset) stack e w
loaded_at kind place stack e w = wrong w

abbrev pub placed : AwaitingPlace → (place : Value) → List Entry → Environment → World → State
placed (LoadFrom kind) place stack e w = loaded_at kind place stack e w
placed TakeAddress place stack e w = gives kinds.NonNull place stack e w
placed (StoreTo peek (Convert from to a)) place stack e w =
    Running (Evaluating a) (Needs (ConvertTo from to (target_by a)) ∷ Needs (StoreCell peek place) ∷ stack) e w
placed (SwapLeft kind peek right) place stack e w = finds_right kind peek true place right stack e w
placed (SwapRight kind peek is_cell left) place stack e w = both_places kind left place stack e w

abbrev pub step_given_place : (place : Value) → List Entry → Environment → World → State
step_given_place place (NeedsPlace a ∷ stack) e w = placed a place stack e w
step_given_place place stack e w = wrong w
