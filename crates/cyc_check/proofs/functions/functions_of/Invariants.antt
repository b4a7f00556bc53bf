use Rattle.std.proofs.Common.{◌≡◌, map, drop}
use Rattle.cyc_syntax.specs.inside.TreeView.{view_declaration}
use Rattle.cyc_types.specs.Rules.{run}
use Rattle.cyc_types.specs.typing.Programs.{rule_functions}
use Rattle.cyc_check.proofs.FunctionLoops.{with_functions}
use Rattle.cyc_check.proofs.functions.functions_of.Given as goal

abbrev pub invariant-loop-declaration : goal.invariant-loop-declaration
invariant-loop-declaration l =
    with_functions l.all.items (run (rule_functions l.program (map view_declaration (drop l.declaration-index l.declarations)))) ≡ run (rule_functions l.program (map view_declaration l.declarations))
