use Rattle.std.proofs.Common.{◌≡◌, drop, map}
use Rattle.std.specs.List.{list_any}
use Rattle.cyc_types.specs.TypedTreeView.{view_function}
use Rattle.cyc_lower_proof.specs.inside.Lowering.{may_open}
use Rattle.cyc_lower.proofs.functions.may_open.Given as goal

-- Loop invariant: none of the functions visited so far may open a lexical region.
abbrev pub invariant-loop-function : goal.invariant-loop-function
invariant-loop-function l = list_any may_open (map view_function (drop l.function-index l.functions)) ≡ list_any may_open (map view_function l.functions)
