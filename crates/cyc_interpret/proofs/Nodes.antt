-- Nodes with lists, as they are stepped into.
use Rattle.std.proofs.Common.{◌≡◌, refl, ap, sym, ◌∙◌, ℕ, List, [], ◌∷◌, Option, None}
use Rattle.cyc_words.specs.declared.span.Span.{Span}
use Rattle.std.specs.declared.vec.Vec.{Vec}
use Rattle.std.specs.declared.boxed.Box.{Box}
use Rattle.std.specs.declared.alloc.Global.{Global as Heap}
use Rattle.cyc_types.specs.declared.ty.Ty.{Ty as TyCode}
use Rattle.cyc_types.specs.declared.typed.ValueType.{ValueType as ValueTypeCode}
use Rattle.cyc_types.specs.declared.typed.Callee.{Callee}
use Rattle.cyc_types.specs.declared.typed.UnaryOperator.{UnaryOperator}
use Rattle.cyc_types.specs.declared.typed.UnaryOperator.TheVariants as unary
use Rattle.cyc_types.specs.declared.typed.Expr.{Expr}
use Rattle.cyc_types.specs.declared.typed.Expr.TheVariants as expr
use Rattle.cyc_types.specs.declared.typed.Initial.{Initial as InitialCode}
use Rattle.cyc_types.specs.declared.typed.Initial.TheVariants as initial
use Rattle.cyc_types.specs.declared.typed.Clause.{Clause}
use Rattle.cyc_types.specs.declared.typed.Body.{Body}
use Rattle.cyc_types.specs.declared.typed.Converted.{Converted as ConvertedCode}
use Rattle.cyc_types.specs.declared.typed.Operation.{Operation}
use Rattle.cyc_types.specs.declared.typed.Stmt.{Stmt}
use Rattle.cyc_types.specs.declared.typed.Stmt.TheVariants as stmt
use Rattle.cyc_types.specs.declared.typed.Item.{Item as ItemCode}
use Rattle.cyc_types.specs.TypedTrees.{Expression, Statement, Initial, type_of, unary_type}
use Rattle.cyc_types.specs.Types as types
use Rattle.cyc_types.specs.TypeView.{view_ty, view_value_type}
use Rattle.cyc_types.specs.TypedTreeView.{view_expression, view_statement, view_initial, arguments_of, operations_of, items_of, clauses_of, default_of}
use Rattle.cyc_types.proofs.TypedTreeViewLemmas.{view_typed_call, view_typed_binary, view_block, view_typed_fields, view_typed_try}
use Rattle.cyc_meaning.specs.State.{Entry, Environment, World, Owner, Running, Evaluating, Executing, Proceeding, Needs, Chain, Rest, Handler, opened}
use Rattle.cyc_meaning.specs.Parts.{inside, region_end, target_of_value, target_by}
use Rattle.cyc_meaning.specs.Allocation.{makes, makes_fields}
use Rattle.cyc_meaning.specs.Step.{step_evaluating, step_executing, passes}

pub call_begins : (value : Expr) {w : _} (f : Callee) (v : Vec ConvertedCode Heap) (t : ValueTypeCode) → value ≡ expr.Call w f v t → (stack : List Entry) (e : Environment) (world : World)
    → step_evaluating (view_expression value) stack e world ≡ passes f [] (arguments_of v.items) stack e world
call_begins value {w} f v t is stack e world =
    ap (λ (x : Expr). step_evaluating (view_expression x) stack e world) is ∙ ap (λ (x : Expression). step_evaluating x stack e world) (view_typed_call w f v t)

pub chains : (value : Expr) (b : Box Expr Heap) (v : Vec Operation Heap) (t : TyCode) → value ≡ expr.Binary b v t → (stack : List Entry) (e : Environment) (world : World)
    → step_evaluating (view_expression value) stack e world ≡ Running (Evaluating (view_expression b.value)) (Needs (Chain (operations_of v.items)) ∷ stack) e world
chains value b v t is stack e world =
    ap (λ (x : Expr). step_evaluating (view_expression x) stack e world) is ∙ ap (λ (x : Expression). step_evaluating x stack e world) (view_typed_binary b v t)

pub blocks : (s : Stmt) (r : ℕ) (v : Vec ItemCode Heap) → s ≡ stmt.Block r v → (stack : List Entry) (e : Environment) (world : World)
    → step_executing (view_statement s) stack e world ≡ Running Proceeding (Rest (items_of v.items) ∷ region_end e world ∷ stack) (inside e world) (opened world)
blocks s r v is stack e world =
    ap (λ (x : Stmt). step_executing (view_statement x) stack e world) is ∙ ap (λ (x : Statement). step_executing x stack e world) (view_block r v)

pub attempts : (s : Stmt) (w : Span) (b : Box Stmt Heap) (v : Vec Clause Heap) (d : Option Body) → s ≡ stmt.Try w b v d → (stack : List Entry) (e : Environment) (world : World)
    → step_executing (view_statement s) stack e world ≡ Running (Executing (view_statement b.value)) (Handler (clauses_of v.items (default_of d)) ∷ stack) e world
attempts s w b v d is stack e world =
    ap (λ (x : Stmt). step_executing (view_statement x) stack e world) is ∙ ap (λ (x : Statement). step_executing x stack e world) (view_typed_try w b v d)

pub makes_struct : (i : InitialCode) (v : Vec ConvertedCode Heap) → i ≡ initial.Fields v → (owner : Owner) (stack : List Entry) (e : Environment) (world : World)
    → makes owner (view_initial i) stack e world ≡ makes_fields owner [] (arguments_of v.items) stack e world
makes_struct i v is owner stack e world =
    ap (λ (x : InitialCode). makes owner (view_initial x) stack e world) is ∙ ap (λ (x : Initial). makes owner x stack e world) (view_typed_fields v)

-- the types of nodes with lists

pub call_type : (value : Expr) (w : Span) (f : Callee) (v : Vec ConvertedCode Heap) (t : ValueTypeCode) → value ≡ expr.Call w f v t → type_of (view_expression value) ≡ view_value_type t
call_type value w f v t is =
    ap (λ (x : Expr). type_of (view_expression x)) is ∙ ap type_of (view_typed_call w f v t)

pub binary_type : (value : Expr) (b : Box Expr Heap) (v : Vec Operation Heap) (t : TyCode) → value ≡ expr.Binary b v t → type_of (view_expression value) ≡ types.Value (view_ty t)
binary_type value b v t is =
    ap (λ (x : Expr). type_of (view_expression x)) is ∙ ap type_of (view_typed_binary b v t)

-- what an operator computes is no pointer
no_target : (o : UnaryOperator) → None ≡ target_of_value (types.Value (unary_type o))
no_target unary.Not = refl
no_target unary.Negate = refl
no_target unary.Complement = refl
no_target unary.Widen = refl
no_target unary.LowByte = refl

pub unary_target : (value : Expr) (o : UnaryOperator) (b : Box Expr Heap) → value ≡ expr.Unary o b → None ≡ target_by (view_expression value)
unary_target value o b is = no_target o ∙ sym (ap (λ (x : Expr). target_by (view_expression x)) is)
