-- This file defines the mathematical views of the nodes of typed statements, and of the type and the initial value of a declared local.
use Rattle.std.specs.Prelude.{Option, option_map}
use Rattle.std.specs.declared.boxed.Box.{Box}
use Rattle.std.specs.declared.alloc.Global.{Global}
use Rattle.cyc_types.specs.declared.typed.Expr.{Expr}
use Rattle.cyc_types.specs.declared.typed.Stmt.{Stmt}
use Rattle.cyc_types.specs.Types.{Ty}
use Rattle.cyc_types.specs.TypeView.{view_ty}
use Rattle.cyc_types.specs.TypedTrees as typed
use Rattle.cyc_types.specs.TypedTreeView as view
use Rattle.cyc_types.specs.typing.Expressions.{converted}
use Rattle.cyc_operands.specs.inside.Operands.{view_boxed}
use Rattle.cyc_statements.specs.declared.items.Initialised.{Initialised}

-- The mathematical view of the typed statement in a `Box`.
abbrev pub view_boxed_statement : Box Stmt Global → typed.Statement
view_boxed_statement b = view.view_statement b.value

-- The mathematical counterparts of a local's type and of its initial value, if the local has an initial value.
abbrev pub view_initialised : Initialised → Ty × Option typed.Converted
view_initialised i = (view_ty i.of_type, option_map (λ (b : Box Expr Global). converted (view_boxed b) (view_ty i.of_type)) i.value)
