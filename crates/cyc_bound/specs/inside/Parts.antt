-- The functions called in the elements of the lists in typed trees (such as the statements of a block), which the code visits element by
-- element.
use Rattle.std.specs.Prelude.{ℕ, List, [], option_map}
use Rattle.cyc_types.specs.declared.typed.Operation.{Operation}
use Rattle.cyc_types.specs.declared.typed.Operation.TheVariants as operation
use Rattle.cyc_types.specs.declared.typed.Item.{Item}
use Rattle.cyc_types.specs.declared.typed.Item.TheVariants as item
use Rattle.cyc_types.specs.TypedTreeView.{view_expression, view_converted, view_statement}
use Rattle.cyc_bound.specs.Callees.{expression_callees, value_callees, statement_callees}

-- the functions called in one step of a chain of operators such as `a + b - c`, that is, in the right operand of one operator
abbrev pub operation_callees : Operation → List ℕ
operation_callees (operation.Compute w o e) = expression_callees (view_expression e)
operation_callees (operation.Test o e) = expression_callees (view_expression e)
operation_callees (operation.Pointer o e) = expression_callees (view_expression e)
operation_callees (operation.PointerPeek n o e) = expression_callees (view_expression e)

-- the functions called in one declaration or statement of a block
abbrev pub item_callees : Item → List ℕ
item_callees (item.Execute s) = statement_callees (view_statement s)
item_callees (item.Local w n t v) = value_callees (option_map view_converted v)
item_callees i = []
