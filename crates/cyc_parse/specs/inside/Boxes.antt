-- The values of the specification that stand for the tree nodes that the parser's code stores in boxes.
use Rattle.std.specs.declared.boxed.Box.{Box}
use Rattle.std.specs.declared.alloc.Global.{Global as Heap}
use Rattle.cyc_syntax.specs.declared.tree.Expr.{Expr}
use Rattle.cyc_syntax.specs.declared.tree.Initial.{Initial as InitialCode}
use Rattle.cyc_syntax.specs.declared.tree.Stmt.{Stmt}
use Rattle.cyc_syntax.specs.Trees.{Expression, Initial, Statement}
use Rattle.cyc_syntax.specs.inside.TreeView.{view_expression, view_initial, view_statement}

abbrev pub view_boxed : Box Expr Heap → Expression
view_boxed b = view_expression b.value

abbrev pub view_boxed_initial : Box InitialCode Heap → Initial
view_boxed_initial b = view_initial b.value

abbrev pub view_boxed_statement : Box Stmt Heap → Statement
view_boxed_statement b = view_statement b.value
