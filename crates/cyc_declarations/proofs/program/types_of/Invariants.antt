use Rattle.std.proofs.Common.{◌≡◌, map, take}
use Rattle.cyc_types.specs.TypeView.{view_ty}
use Rattle.cyc_types.specs.typing.Scopes.{Field}
use Rattle.cyc_scope.specs.inside.Entries.{view_field}
use Rattle.cyc_declarations.proofs.program.types_of.Given as goal

abbrev pub invariant-loop-field : goal.invariant-loop-field
invariant-loop-field l = map view_ty l.all.items ≡ map (λ (f : Field). f.of_type) (map view_field (take l.field-index l.fields))
