-- The specification's form of the tree nodes that the checker's code builds for operands, memory locations, and objects that
-- `new` creates, as the typing rules use them.
use Rattle.std.specs.Prelude.{◌≡◌, None, Result, Ok, Err}
use Rattle.std.specs.declared.boxed.Box.{Box}
use Rattle.std.specs.declared.alloc.Global.{Global}
use Rattle.cyc_types.specs.declared.region.Region.TheVariants.{Heap}
use Rattle.cyc_types.specs.declared.typed.Expr.{Expr}
use Rattle.cyc_types.specs.declared.typed.Converted.{Converted as ConvertedCode}
use Rattle.cyc_types.specs.Types.{Int, Char, Handle, ValueType, Void, Null, Value}
use Rattle.cyc_types.specs.TypeView.{view_ty}
use Rattle.cyc_types.specs.TypedTrees as typed
use Rattle.cyc_types.specs.TypedTreeView as view
use Rattle.cyc_types.specs.Rules.{Checked, settled}
use Rattle.cyc_types.specs.typing.Expressions.{Found, Made}
use Rattle.cyc_scope.specs.declared.stop.Stop.{Stop}
use Rattle.cyc_scope.specs.inside.Code.{Stops}
use Rattle.cyc_operands.specs.declared.given.Given.{Given}
use Rattle.cyc_operands.specs.declared.given.Given.TheVariants as given
use Rattle.cyc_operands.specs.declared.found.Found.{Found as FoundCode}
use Rattle.cyc_operands.specs.declared.made.Made.{Made as MadeCode}

-- Returns the specification's value type for the value type that the checker's code stores.
abbrev pub view_given : Given → ValueType
view_given given.Void = Void
view_given given.Null = Null
view_given given.Int = Value Int
view_given given.Char = Value Char
view_given given.HeapHandle = Value (Handle Heap)
view_given (given.Value t) = Value (view_ty t.now)

-- Returns the specification's form of a typed expression that the checker's code stores in a box.
abbrev pub view_boxed : Box Expr Global → typed.Expression
view_boxed b = view.view_expression b.value

-- Returns the value of an argument before its conversion.
abbrev pub value_in : ConvertedCode → typed.Expression
value_in c = view.view_expression c.value

-- ---- places and new objects

abbrev pub found_of : FoundCode → Found
found_of f = record { side = view.view_side f.side; region = f.region }

abbrev pub view_found : Box FoundCode Global → Found
view_found b = found_of b.value

-- Says that the checker's code and the typing rule agree on a C object that `new` creates: on its type, the pointer kind of the pointer to
-- it, and the first violated requirement. If no requirement is violated, they also agree on the object's initial value.
pub record IsMade (r : Box MadeCode Global) (m : Made) : Type 0 where
  pub asked : r.value.settled.known ≡ settled None m.asked
  pub initial : r.value.settled.known ≡ None → view.view_initial r.value.initial.value ≡ m.initial
  pub target : view_ty r.value.target ≡ m.target
  pub mark : r.value.mark ≡ m.mark

-- Says that the result of the checker's code represents the typing rule's result, unless the compiler itself ran out of memory.
abbrev pub GivesOne : {X Y : Type 0} → (X → Y → Type 0) → Result X Stop → Checked Y → Type 0
GivesOne meets (Ok x) (Ok y) = meets x y
GivesOne meets (Ok x) (Err f) = ⊥
GivesOne meets (Err e) checked = Stops e checked
