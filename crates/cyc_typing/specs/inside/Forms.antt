-- The values of the typing rules that the arguments and results of the functions that check the forms of expressions represent.
use Rattle.std.specs.Prelude.{◌≡◌, List, [], ◌∷◌, ◌++◌, Option, Some, None, Result, Ok, Err}
use Rattle.std.specs.declared.boxed.Box.{Box}
use Rattle.std.specs.declared.alloc.Global.{Global}
use Rattle.cyc_words.specs.declared.fault.Fault.{Fault}
use Rattle.cyc_syntax.specs.Symbols.{Place}
use Rattle.cyc_types.specs.declared.region.Region.{Region}
use Rattle.cyc_types.specs.declared.ty.Ty.{Ty as TyCode}
use Rattle.cyc_types.specs.declared.typed.Operation.{Operation}
use Rattle.cyc_types.specs.declared.typed.Operation.TheVariants as operation
use Rattle.cyc_types.specs.declared.typed.UnaryOperator.{UnaryOperator}
use Rattle.cyc_types.specs.declared.typed.UnaryOperator.TheVariants as unary
use Rattle.cyc_types.specs.Types.{Pointer, ValueType}
use Rattle.cyc_types.specs.TypeView.{view_ty}
use Rattle.cyc_types.specs.TypedTrees.{type_of, type_of_place}
use Rattle.cyc_types.specs.TypedTrees as typed
use Rattle.cyc_types.specs.TypedTreeView as view
use Rattle.cyc_types.specs.Rules.{Checked, lesser, settled, unless, Rule, Own}
use Rattle.cyc_types.specs.typing.Expressions.{Found, Reached, Placed, Joined, content_demanded, as_int, int_wanted, test_wanted}
use Rattle.cyc_scope.specs.declared.stop.Stop.{Stop}
use Rattle.cyc_scope.specs.inside.Code.{Stops}
use Rattle.cyc_operands.specs.declared.made.Made.{Made as MadeCode}
use Rattle.cyc_typing.specs.declared.places.Reached.{Reached as ReachedCode}
use Rattle.cyc_typing.specs.declared.objects.Placed.{Placed as PlacedCode}

-- puts an operator and its right operand before the list of the further operators of the same expression, each with its right operand
abbrev pub put_operation : Operation → typed.Operations → typed.Operations
put_operation (operation.Compute s o e) = typed.ThenCompute o (view.view_expression e)
put_operation (operation.Test o e) = typed.ThenTest o (view.view_expression e)
put_operation (operation.Pointer o e) = typed.ThenPointer o (view.view_expression e)
put_operation (operation.PointerPeek n o e) = typed.ThenPointerPeek n o (view.view_expression e)

-- ---- values that are passed between parts

-- Says that the result of the checker's code represents a memory cell reached through a pointer, and that the
-- requirements on this cell are already checked.
pub record IsReached (r : Box ReachedCode Global) (w : Reached) : Type 0 where
  pub asked : r.value.settled.known ≡ settled None w.asked
  pub cell : view.view_dereference r.value.cell.value ≡ w.cell
  pub region : r.value.region ≡ w.region

pub record IsPlaced (r : Box PlacedCode Global) (w : Placed) : Type 0 where
  pub asked : r.value.settled.known ≡ settled None w.asked
  pub placement : view.view_placement r.value.placement ≡ w.placement
  pub region : r.value.region ≡ w.region

-- ---- results after settled demands

abbrev pub loaded_after : Option Fault → Place → typed.Dereference → Checked typed.Expression
loaded_after known p d = unless (settled known (content_demanded (type_of_place d) p)) (typed.Load d)

abbrev pub reached_after : Option Fault → typed.Dereference → Region → Checked Found
reached_after known d r = unless known (record { side = typed.CellSide d; region = r })

-- the fault of two lists of requirements that were checked separately
abbrev pub merged : Option Fault → Option Fault → Option Fault
merged known None = known
merged known (Some f) = lesser known f

abbrev pub created_after : Box PlacedCode Global → Box MadeCode Global → Checked typed.Expression
created_after p m =
    unless (merged p.value.settled.known m.value.settled.known)
    (typed.New (view.view_placement p.value.placement) (view.view_initial m.value.initial.value) (Pointer m.value.mark (view_ty m.value.target) p.value.region))

-- the assignment of a converted value to a variable or memory cell, with the type of the assignment's value
abbrev pub stored_in : typed.Side → typed.Converted → ValueType → typed.Expression
stored_in (typed.VariableSide l t) c u = typed.Assign l c u
stored_in (typed.CellSide d) c u = typed.Store d c u

-- Says that one operator with its right operand was added at the end of an expression's list of operators. The function returns the type
-- of the operator's result.
abbrev pub Joins : (old new : List Operation) → Result TyCode Stop → Checked Joined → Type 0
Joins old new (Ok t) checked = (o : Operation) × (new ≡ old ++ o ∷ []) × (checked ≡ Ok (put_operation o, view_ty t))
Joins old new (Err e) checked = Stops e checked

-- ---- unary operators whose operand is at this place; a char is used as an int

abbrev pub computed : UnaryOperator → Place → typed.Expression → Rule typed.Expression
computed unary.Not q a = Own (test_wanted (type_of (as_int a)) q ∷ []) (typed.Unary unary.Not (as_int a))
computed o q a = Own (int_wanted (type_of (as_int a)) q ∷ []) (typed.Unary o (as_int a))
