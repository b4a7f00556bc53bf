use Rattle.std.proofs.Common.{◌≡◌, ◌+◌, map, drop}
use Rattle.cyc_types.specs.typing.Expressions.{field_among, field_number}
use Rattle.cyc_scope.specs.inside.Entries.{view_field}
use Rattle.cyc_typing.proofs.places.find_field.Given as goal

abbrev pub invariant-loop-i : goal.invariant-loop-i
invariant-loop-i l = record {
  number : field_number (map view_field l.fields) l.name ≡ l.i + field_number (map view_field (drop l.i l.fields)) l.name;
  of_type : field_among (map view_field (drop l.i l.fields)) l.name ≡ field_among (map view_field l.fields) l.name;
}
