use Rattle.std.proofs.Common.{◌≡◌, map, drop}
use Rattle.cyc_syntax.specs.inside.TreeView.{view_member}
use Rattle.cyc_types.specs.Rules.{run}
use Rattle.cyc_types.specs.typing.DeclarationRules.{rule_parameters}
use Rattle.cyc_declarations.proofs.functions.check_parameters.Given as goal

abbrev pub invariant-loop-parameter : goal.invariant-loop-parameter
invariant-loop-parameter l = run (rule_parameters l.known l.own l.before (map view_member (drop l.parameter-index l.parameters))) ≡ run (rule_parameters l.known l.own l.fn.before (map view_member l.parameters))
