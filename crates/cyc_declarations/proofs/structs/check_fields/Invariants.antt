use Rattle.std.proofs.Common.{◌≡◌, map, drop}
use Rattle.cyc_syntax.specs.inside.TreeView.{view_member}
use Rattle.cyc_types.specs.Rules.{run}
use Rattle.cyc_types.specs.typing.DeclarationRules.{rule_fields}
use Rattle.cyc_declarations.proofs.structs.check_fields.Given as goal

abbrev pub invariant-loop-field : goal.invariant-loop-field
invariant-loop-field l = run (rule_fields l.known l.names l.before (map view_member (drop l.field-index l.fields))) ≡ run (rule_fields l.known l.names l.fn.before (map view_member l.fields))
