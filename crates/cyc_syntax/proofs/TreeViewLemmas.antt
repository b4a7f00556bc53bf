-- The mathematical form (view) of a node that contains lists of nodes is computed from the elements of its `Vec`s.
use Rattle.std.proofs.Common.{◌≡◌, List, map, Option, Some, None, option_map, refl, sym, ap, ◌∙◌}
use Rattle.std.specs.declared.vec.Vec.{Vec}
use Rattle.std.specs.declared.boxed.Box.{Box}
use Rattle.std.specs.declared.alloc.Global.{Global as Heap}
use Rattle.cyc_words.specs.declared.span.Span.{Span}
use Rattle.cyc_syntax.specs.declared.tree.Ident.{Ident}
use Rattle.cyc_syntax.specs.declared.tree.Expr.{Expr, Row_of-Expr, end_of-Expr, more_of-Expr, items-the_row-Expr, Row_of-Postfix, end_of-Postfix, more_of-Postfix, items-the_row-Postfix, Row_of-Operation, end_of-Operation, more_of-Operation, items-the_row-Operation}
use Rattle.cyc_syntax.specs.declared.tree.Expr.TheBlock.{hidden-the_row-Expr-0, items_hidden-the_row-Expr-0, hidden-the_row-Postfix-1, items_hidden-the_row-Postfix-1, hidden-the_row-Operation-2, items_hidden-the_row-Operation-2}
use Rattle.cyc_syntax.specs.declared.tree.Expr.TheVariants as expr
use Rattle.cyc_syntax.specs.declared.tree.Initial.TheVariants as init
use Rattle.cyc_syntax.specs.declared.tree.Postfix.{Postfix}
use Rattle.cyc_syntax.specs.declared.tree.Postfix.TheVariants as postfix
use Rattle.cyc_syntax.specs.declared.tree.Operation.{Operation}
use Rattle.cyc_syntax.specs.declared.tree.Stmt.{Stmt, Row_of-Item, end_of-Item, more_of-Item, items-the_row-Item, Row_of-Clause, end_of-Clause, more_of-Clause, items-the_row-Clause}
use Rattle.cyc_syntax.specs.declared.tree.Item.TheBlock.{hidden-the_row-Item-0, items_hidden-the_row-Item-0, shown-the_row-Item-0, items_shown-the_row-Item-0, back-Stmt-Try-3, hidden-the_row-Clause-1, items_hidden-the_row-Clause-1}
use Rattle.cyc_syntax.specs.declared.tree.Stmt.TheVariants as stmt
use Rattle.cyc_syntax.specs.declared.tree.Item.{Item as ItemCode}
use Rattle.cyc_syntax.specs.declared.tree.Block.{Block as BlockCode}
use Rattle.cyc_syntax.specs.declared.tree.Clause.{Clause}
use Rattle.cyc_syntax.specs.Trees.{Call, Chained, Binary, Fields, MoreExpressions, ThenIndex, ThenField, ThenOperation, Block, Labelled, Try, Braces, Items, MoreItems, Clauses, Default, Case}
use Rattle.cyc_syntax.specs.inside.TreeView.{place_of_span, view_name, view_expression, view_initial, view_expressions, view_postfixes, view_operations, expressions_of, postfixes_of}
use Rattle.cyc_syntax.specs.inside.TreeView.{operations_of, view_statement, view_items, view_item, view_clauses, view_default, items_of, view_block, default_of, clauses_of}

view_expressions-items : {m : _} (row : Row_of-Expr m) → view_expressions row ≡ expressions_of (items-the_row-Expr m row)
view_expressions-items end_of-Expr = refl
view_expressions-items (more_of-Expr e row) = ap (MoreExpressions (view_expression e)) (view_expressions-items row)

pub expressions_view : (v : Vec Expr Heap) → view_expressions (hidden-the_row-Expr-0 v) ≡ expressions_of v.items
expressions_view v = view_expressions-items (hidden-the_row-Expr-0 v) ∙ ap expressions_of (items_hidden-the_row-Expr-0 v)

view_postfixes-items : {m : _} (row : Row_of-Postfix m) → view_postfixes row ≡ postfixes_of (items-the_row-Postfix m row)
view_postfixes-items end_of-Postfix = refl
view_postfixes-items (more_of-Postfix (postfix.Index e) row) = ap (ThenIndex (view_expression e)) (view_postfixes-items row)
view_postfixes-items (more_of-Postfix (postfix.Field x) row) = ap (ThenField (view_name x)) (view_postfixes-items row)

pub postfixes_view : (v : Vec Postfix Heap) → view_postfixes (hidden-the_row-Postfix-1 v) ≡ postfixes_of v.items
postfixes_view v = view_postfixes-items (hidden-the_row-Postfix-1 v) ∙ ap postfixes_of (items_hidden-the_row-Postfix-1 v)

view_operations-items : {m : _} (row : Row_of-Operation m) → view_operations row ≡ operations_of (items-the_row-Operation m row)
view_operations-items end_of-Operation = refl
view_operations-items (more_of-Operation o s e row) = ap (ThenOperation o (place_of_span s) (view_expression e)) (view_operations-items row)

pub operations_view : (v : Vec Operation Heap) → view_operations (hidden-the_row-Operation-2 v) ≡ operations_of v.items
operations_view v = view_operations-items (hidden-the_row-Operation-2 v) ∙ ap operations_of (items_hidden-the_row-Operation-2 v)

-- ---- nodes that contain lists

pub view_call : (f : Ident) (v : Vec Expr Heap) → view_expression (expr.Call f v) ≡ Call (view_name f) (expressions_of v.items)
view_call f v = ap (Call (view_name f)) (expressions_view v)

pub view_chained : (b : Box Expr Heap) (v : Vec Postfix Heap) → view_expression (expr.Chained b v) ≡ Chained (view_expression b.value) (postfixes_of v.items)
view_chained b v = ap (Chained (view_expression b.value)) (postfixes_view v)

pub view_binary : (b : Box Expr Heap) (v : Vec Operation Heap) → view_expression (expr.Binary b v) ≡ Binary (view_expression b.value) (operations_of v.items)
view_binary b v = ap (Binary (view_expression b.value)) (operations_view v)

pub view_fields : (s : Ident) (rs : Vec Ident Heap) (v : Vec Expr Heap) → view_initial (init.Fields s rs v) ≡ Fields (view_name s) (map view_name rs.items) (expressions_of v.items)
view_fields s rs v = ap (Fields (view_name s) (map view_name rs.items)) (expressions_view v)

-- ---- statements

view_items-items : {m : _} (row : Row_of-Item m) → view_items row ≡ items_of (items-the_row-Item m row)
view_items-items end_of-Item = refl
view_items-items (more_of-Item i row) = ap (MoreItems (view_item i)) (view_items-items row)

pub items_view : (v : Vec ItemCode Heap) → view_items (hidden-the_row-Item-0 v) ≡ items_of v.items
items_view v = view_items-items (hidden-the_row-Item-0 v) ∙ ap items_of (items_hidden-the_row-Item-0 v)

pub view_braces : (b : BlockCode) → Braces (place_of_span b.span) (view_items (hidden-the_row-Item-0 b.items)) (place_of_span b.end) ≡ view_block b
view_braces b = ap (λ (is : Items). Braces (place_of_span b.span) is (place_of_span b.end)) (items_view b.items)

pub view_statement_block : (b : BlockCode) → view_statement (stmt.Block b) ≡ Block (view_block b)
view_statement_block b = ap Block (view_braces b)

pub view_labelled : (l : Ident) (b : BlockCode) → view_statement (stmt.Labelled l b) ≡ Labelled (view_name l) (view_block b)
view_labelled l b = ap (Labelled (view_name l)) (view_braces b)

shown_view : (shape : _) (is : Row_of-Item _) → view_items is ≡ items_of (shown-the_row-Item-0 shape is).items
shown_view shape is = view_items-items is ∙ ap items_of (sym (items_shown-the_row-Item-0 shape is))

view_clauses-items : {m : _} (row : Row_of-Clause m) (default : Clauses) → view_clauses row default ≡ clauses_of (items-the_row-Clause m row) default
view_clauses-items end_of-Clause default = refl
view_clauses-items (more_of-Clause x v shape is row) default =
    ap (λ (items : Items). Case (view_name x) (option_map view_name v) items (view_clauses row default)) (shown_view shape is)
    ∙ ap (Case (view_name x) (option_map view_name v) (items_of (shown-the_row-Item-0 shape is).items)) (view_clauses-items row default)

pub clauses_view : (v : Vec Clause Heap) (default : Clauses) → view_clauses (hidden-the_row-Clause-1 v) default ≡ clauses_of v.items default
clauses_view v default = view_clauses-items (hidden-the_row-Clause-1 v) default ∙ ap (λ (cs : List Clause). clauses_of cs default) (items_hidden-the_row-Clause-1 v)

default_view : (d : Option (Vec ItemCode Heap)) → view_default (back-Stmt-Try-3 d) ≡ default_of d
default_view None = refl
default_view (Some v) = ap Default (items_view v)

pub view_try : (s : Span) (b : Box Stmt Heap) (v : Vec Clause Heap) (d : Option (Vec ItemCode Heap)) → view_statement (stmt.Try s b v d) ≡ Try (place_of_span s) (view_statement b.value) (clauses_of v.items (default_of d))
view_try s b v d =
    ap (Try (place_of_span s) (view_statement b.value)) (clauses_view v (view_default (back-Stmt-Try-3 d)) ∙ ap (clauses_of v.items) (default_view d))
