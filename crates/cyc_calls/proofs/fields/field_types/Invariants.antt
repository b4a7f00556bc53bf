use Rattle.std.proofs.Common.{◌≡◌, map, take}
use Rattle.cyc_types.specs.TypeView.{view_ty}
use Rattle.cyc_types.specs.typing.Expressions.{field_types}
use Rattle.cyc_scope.specs.inside.Entries.{view_field}
use Rattle.cyc_calls.proofs.fields.field_types.Given as goal

abbrev pub invariant-loop-field : goal.invariant-loop-field
invariant-loop-field l = map view_ty l.all.items ≡ field_types l.arguments (map view_field (take l.field-index l.fields))
