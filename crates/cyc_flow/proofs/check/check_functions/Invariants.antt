use Rattle.std.proofs.Common.{◌≡◌, drop, map}
use Rattle.cyc_types.specs.Rules.{run}
use Rattle.cyc_types.specs.TypedTreeView.{view_function}
use Rattle.cyc_types.specs.flow.Programs.{rule_functions}
use Rattle.cyc_flow.proofs.check.check_functions.Given as goal

abbrev pub invariant-loop-function : goal.invariant-loop-function
invariant-loop-function l = run (rule_functions (map view_function (drop l.function-index l.functions))) ≡ run (rule_functions (map view_function l.functions))
