use Rattle.cyc_types.specs.TypedTreeView.{view_expression}
use Rattle.cyc_lower.specs.inside.Emission.{view_starts}
use Rattle.cyc_lower.proofs.emission.Conditions.{EarlyRemain}
use Rattle.cyc_lower.proofs.emitter.Emitter.lower_early.Given as goal

abbrev pub invariant-loop-operation : goal.invariant-loop-operation
invariant-loop-operation l = EarlyRemain (view_starts l.starts) l.operator (view_expression l.first) l.rest l.free l.fn.self.code.items l.operation-index l.self.code.items l.last l.early.items
