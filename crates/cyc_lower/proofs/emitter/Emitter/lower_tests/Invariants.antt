use Rattle.cyc_types.specs.TypedTreeView.{view_expression}
use Rattle.cyc_lower.specs.inside.Emission.{view_starts}
use Rattle.cyc_lower.proofs.emission.Conditions.{OthersRemain}
use Rattle.cyc_lower.proofs.emitter.Emitter.lower_tests.Given as goal

abbrev pub invariant-loop-operation : goal.invariant-loop-operation
invariant-loop-operation l = OthersRemain (view_starts l.starts) l.operator (view_expression l.first) l.rest l.following l.free l.fn.self.code.items l.operation-index l.self.code.items l.condition
