use Rattle.std.proofs.Common.{◌≡◌, ◌||◌, map, option_map, drop}
use Rattle.cyc_types.specs.declared.region.Region.{Region}
use Rattle.cyc_types.specs.TypeView.{view_ty}
use Rattle.cyc_types.specs.typing.DeclarationRules.{has_key, and_result}
use Rattle.cyc_declarations.specs.inside.KeyTables.{has}
use Rattle.cyc_declarations.proofs.keys.keys_of.Given as goal

abbrev pub invariant-loop-of_type : goal.invariant-loop-of_type
invariant-loop-of_type l = (r : Region) → (has l.keys r || has_key (map view_ty (drop l.of_type-index l.types)) r) ≡ has_key (and_result (map view_ty l.types) (option_map view_ty l.returned)) r
