use Rattle.std.proofs.Common.{◌≡◌, map, drop}
use Rattle.cyc_syntax.specs.inside.TreeView.{view_declaration}
use Rattle.cyc_types.specs.Rules.{run}
use Rattle.cyc_types.specs.typing.DeclarationRules.{rule_declarations}
use Rattle.cyc_types.specs.typing.Programs.{before_all}
use Rattle.cyc_declarations.proofs.tree.check_declarations.Given as goal

abbrev pub invariant-loop-declaration : goal.invariant-loop-declaration
invariant-loop-declaration l = run (rule_declarations l.known l.before (map view_declaration (drop l.declaration-index l.declarations))) ≡ run (rule_declarations l.known (before_all l.names) (map view_declaration l.declarations))
