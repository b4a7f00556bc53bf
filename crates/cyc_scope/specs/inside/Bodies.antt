-- The scope of a function's body, computed from the region names that its parameters declare.
use Rattle.std.specs.Prelude.{suc, false, List, [], ◌∷◌, length}
use Rattle.cyc_syntax.specs.Trees.{Named, Member}
use Rattle.cyc_types.specs.declared.region.Region.TheVariants as regions
use Rattle.cyc_types.specs.TypedTrees.{Signature}
use Rattle.cyc_types.specs.typing.Scopes.{RegionName, Scope}
use Rattle.cyc_types.specs.typing.DeclarationRules.{region_numbers}
use Rattle.cyc_types.specs.typing.Programs.{Program, parameter_locals, body_regions}

-- the region names extended by the function's own region, which has the function's name
abbrev pub own_names : Named → List RegionName → List RegionName
own_names x names = record { name = x.name; region = regions.Variable 0 } ∷ names

-- the scope `body_scope` of a function's body, computed from the declarations of the function's parameters
abbrev pub body_with : Program → Signature → Named → List RegionName → List Member → Scope
body_with p s x names ms = record {
  structs = p.known.structs;
  fields = p.fields;
  exceptions = p.exceptions;
  program = p.declared;
  result = s.result;
  names = own_names x names;
  taken = region_numbers (own_names x names);
  regions = body_regions s;
  locals = parameter_locals ms s.parameters 0 [];
  next_local = length ms;
  next_region = suc s.variables;
  region = 0;
  in_loop = false;
  counters = 0;
}
