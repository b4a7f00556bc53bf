use Rattle.cyc_syntax.specs.inside.TreeView.{place_of_span}
use Rattle.cyc_types.specs.typing.Expressions.{pointed}
use Rattle.cyc_operands.specs.inside.Operands.{view_boxed}
use Rattle.cyc_expressions.proofs.walk.place_through.Goals as goal

pub returns : goal.returns
returns c = c.as_place.ensures (pointed c.args.scope.now (place_of_span c.args.pointer_span) (view_boxed c.args.pointer)) c.in_ok-cell.ensures
