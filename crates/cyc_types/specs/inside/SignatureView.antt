-- The mathematical view of the compiler's data type for function signatures; the view omits the memory layout.
use Rattle.std.specs.Prelude.{List, map, option_map}
use Rattle.cyc_types.specs.declared.region.Region.{Region}
use Rattle.cyc_types.specs.declared.signature.Signature.{Signature as SignatureCode}
use Rattle.cyc_types.specs.Types.{substituted_region}
use Rattle.cyc_types.specs.TypeView.{view_ty}
use Rattle.cyc_types.specs.TypedTrees.{Signature}

abbrev pub view_signature : SignatureCode → Signature
view_signature s = record {
  variables = s.variables;
  parameters = map view_ty s.parameters.items;
  result = option_map view_ty s.result;
  effect = s.effect.items;
  constraints = s.constraints.items;
}

-- substitutes regions for the region variables in both regions of a pair
abbrev pub substituted_pair : List Region → Region × Region → Region × Region
substituted_pair instance p = (substituted_region instance p.0, substituted_region instance p.1)
