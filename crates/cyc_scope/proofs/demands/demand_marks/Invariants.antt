use Rattle.std.proofs.Common.{◌≡◌, map, drop}
use Rattle.cyc_syntax.specs.inside.TreeView.{view_pointer}
use Rattle.cyc_types.specs.Rules.{settled}
use Rattle.cyc_types.specs.typing.Formation.{marks_demanded}
use Rattle.cyc_scope.proofs.demands.demand_marks.Given as goal

abbrev pub invariant-loop-mark : goal.invariant-loop-mark
invariant-loop-mark l = settled l.settled.known (marks_demanded l.names l.own (map view_pointer (drop l.mark-index l.marks))) ≡ settled l.fn.settled.known (marks_demanded l.names l.own (map view_pointer l.marks))
