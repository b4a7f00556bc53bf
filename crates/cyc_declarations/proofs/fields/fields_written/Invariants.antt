use Rattle.std.proofs.Common.{◌≡◌, map, take}
use Rattle.cyc_syntax.specs.inside.TreeView.{view_member}
use Rattle.cyc_types.specs.typing.DeclarationRules.{fields_written}
use Rattle.cyc_scope.specs.inside.Entries.{view_field}
use Rattle.cyc_declarations.proofs.fields.fields_written.Given as goal

abbrev pub invariant-loop-field : goal.invariant-loop-field
invariant-loop-field l = map view_field l.all.items ≡ fields_written l.known l.names (map view_member (take l.field-index l.fields))
