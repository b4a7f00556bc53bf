-- The mathematical view of a typed node that holds lists of nodes, computed from the nodes stored in its `Vec`s.
use Rattle.std.proofs.Common.{◌≡◌, ℕ, List, Option, None, Some, refl, sym, ap, ◌∙◌}
use Rattle.std.specs.declared.vec.Vec.{Vec}
use Rattle.std.specs.declared.boxed.Box.{Box}
use Rattle.std.specs.declared.alloc.Global.{Global as Heap}
use Rattle.cyc_words.specs.declared.span.Span.{Span}
use Rattle.cyc_types.specs.declared.ty.Ty.{Ty as TyCode}
use Rattle.cyc_types.specs.declared.typed.Callee.{Callee}
use Rattle.cyc_types.specs.declared.typed.Expr.{Expr, Row_of-Converted, end_of-Converted, more_of-Converted, items-the_row-Converted, Row_of-Operation, end_of-Operation, more_of-Operation, items-the_row-Operation}
use Rattle.cyc_types.specs.declared.typed.Dereference.TheBlock.{hidden-the_row-Converted-0, items_hidden-the_row-Converted-0, hidden-the_row-Operation-1, items_hidden-the_row-Operation-1}
use Rattle.cyc_types.specs.declared.typed.Expr.TheVariants as expr
use Rattle.cyc_types.specs.declared.typed.Initial.TheVariants as initial
use Rattle.cyc_types.specs.declared.typed.Converted.{Converted as ConvertedCode}
use Rattle.cyc_types.specs.declared.typed.Operation.{Operation}
use Rattle.cyc_types.specs.declared.typed.Operation.TheVariants as operation
use Rattle.cyc_types.specs.declared.typed.Stmt.{Stmt, Row_of-Item, end_of-Item, more_of-Item, items-the_row-Item, Row_of-Clause, end_of-Clause, more_of-Clause, items-the_row-Clause}
use Rattle.cyc_types.specs.declared.typed.Item.TheBlock.{hidden-the_row-Item-0, items_hidden-the_row-Item-0, shown-the_row-Item-0, items_shown-the_row-Item-0, back-Stmt-Try-3, hidden-the_row-Clause-1, items_hidden-the_row-Clause-1}
use Rattle.cyc_types.specs.declared.typed.Item.{Item as ItemCode}
use Rattle.cyc_types.specs.declared.typed.Body.{Body}
use Rattle.cyc_types.specs.declared.typed.Clause.{Clause}
use Rattle.cyc_types.specs.declared.typed.Stmt.TheVariants as stmt
use Rattle.cyc_types.specs.declared.typed.ValueType.{ValueType as ValueTypeCode}
use Rattle.cyc_types.specs.TypeView.{view_ty, view_value_type}
use Rattle.cyc_types.specs.TypedTrees.{Call, Binary, Convert, Fields, MoreArguments, ThenCompute, ThenTest, ThenPointer, ThenPointerPeek, Block, Try, Items, MoreItems, Clauses, Default, Case}
use Rattle.cyc_types.specs.TypedTreeView.{view_expression, view_initial, view_arguments, view_operations, arguments_of, operations_of, view_statement, view_items, view_item, view_clauses, view_default, items_of, default_of, clauses_of}

view_arguments-items : {m : _} (row : Row_of-Converted m) → view_arguments row ≡ arguments_of (items-the_row-Converted m row)
view_arguments-items end_of-Converted = refl
view_arguments-items (more_of-Converted f t e row) = ap (MoreArguments (Convert f t (view_expression e))) (view_arguments-items row)

pub arguments_view : (v : Vec ConvertedCode Heap) → view_arguments (hidden-the_row-Converted-0 v) ≡ arguments_of v.items
arguments_view v = view_arguments-items (hidden-the_row-Converted-0 v) ∙ ap arguments_of (items_hidden-the_row-Converted-0 v)

view_operations-items : {m : _} (row : Row_of-Operation m) → view_operations row ≡ operations_of (items-the_row-Operation m row)
view_operations-items end_of-Operation = refl
view_operations-items (more_of-Operation (operation.Compute s o e) row) = ap (ThenCompute o (view_expression e)) (view_operations-items row)
view_operations-items (more_of-Operation (operation.Test o e) row) = ap (ThenTest o (view_expression e)) (view_operations-items row)
view_operations-items (more_of-Operation (operation.Pointer o e) row) = ap (ThenPointer o (view_expression e)) (view_operations-items row)
view_operations-items (more_of-Operation (operation.PointerPeek n o e) row) = ap (ThenPointerPeek n o (view_expression e)) (view_operations-items row)

pub typed_operations_view : (v : Vec Operation Heap) → view_operations (hidden-the_row-Operation-1 v) ≡ operations_of v.items
typed_operations_view v = view_operations-items (hidden-the_row-Operation-1 v) ∙ ap operations_of (items_hidden-the_row-Operation-1 v)

view_items-items : {m : _} (row : Row_of-Item m) → view_items row ≡ items_of (items-the_row-Item m row)
view_items-items end_of-Item = refl
view_items-items (more_of-Item i row) = ap (MoreItems (view_item i)) (view_items-items row)

pub items_view : (v : Vec ItemCode Heap) → view_items (hidden-the_row-Item-0 v) ≡ items_of v.items
items_view v = view_items-items (hidden-the_row-Item-0 v) ∙ ap items_of (items_hidden-the_row-Item-0 v)

shown_view : (shape : _) (is : Row_of-Item _) → view_items is ≡ items_of (shown-the_row-Item-0 shape is).items
shown_view shape is = view_items-items is ∙ ap items_of (sym (items_shown-the_row-Item-0 shape is))

view_clauses-items : {m : _} (row : Row_of-Clause m) (default : Clauses) → view_clauses row default ≡ clauses_of (items-the_row-Clause m row) default
view_clauses-items end_of-Clause default = refl
view_clauses-items (more_of-Clause e n r shape is row) default =
    ap (λ (items : Items). Case e n r items (view_clauses row default)) (shown_view shape is)
    ∙ ap (Case e n r (items_of (shown-the_row-Item-0 shape is).items)) (view_clauses-items row default)

pub clauses_view : (v : Vec Clause Heap) (default : Clauses) → view_clauses (hidden-the_row-Clause-1 v) default ≡ clauses_of v.items default
clauses_view v default = view_clauses-items (hidden-the_row-Clause-1 v) default ∙ ap (λ (cs : List Clause). clauses_of cs default) (items_hidden-the_row-Clause-1 v)

typed_default_view : (d : Option Body) → view_default (back-Stmt-Try-3 d) ≡ default_of d
typed_default_view None = refl
typed_default_view (Some b) = ap (Default b.region) (items_view b.items)

-- ---- nodes that contain lists

pub view_typed_call : (w : Span) (f : Callee) (v : Vec ConvertedCode Heap) (t : ValueTypeCode) → view_expression (expr.Call w f v t) ≡ Call f (arguments_of v.items) (view_value_type t)
view_typed_call w f v t = ap (λ cs. Call f cs (view_value_type t)) (arguments_view v)

pub view_typed_binary : (b : Box Expr Heap) (v : Vec Operation Heap) (t : TyCode) → view_expression (expr.Binary b v t) ≡ Binary (view_expression b.value) (operations_of v.items) (view_ty t)
view_typed_binary b v t = ap (λ os. Binary (view_expression b.value) os (view_ty t)) (typed_operations_view v)

pub view_block : (r : ℕ) (v : Vec ItemCode Heap) → view_statement (stmt.Block r v) ≡ Block r (items_of v.items)
view_block r v = ap (Block r) (items_view v)

pub view_typed_fields : (v : Vec ConvertedCode Heap) → view_initial (initial.Fields v) ≡ Fields (arguments_of v.items)
view_typed_fields v = ap Fields (arguments_view v)

pub view_typed_try : (w : Span) (b : Box Stmt Heap) (v : Vec Clause Heap) (d : Option Body) → view_statement (stmt.Try w b v d) ≡ Try (view_statement b.value) (clauses_of v.items (default_of d))
view_typed_try w b v d = ap (Try (view_statement b.value)) (clauses_view v (view_default (back-Stmt-Try-3 d)) ∙ ap (clauses_of v.items) (typed_default_view d))
