-- A typed function is built from its signature, its name, the declarations and statements of its body, and its number of regions.
use Rattle.std.specs.Prelude.{ℕ}
use Rattle.cyc_syntax.specs.Symbols.{Place}
use Rattle.cyc_syntax.specs.Trees.{Named}
use Rattle.cyc_types.specs.TypedTrees.{Signature}
use Rattle.cyc_types.specs.TypedTrees as typed
use Rattle.cyc_types.specs.Declarations.{item_types}

abbrev pub function_with : Signature → Named → (regions : ℕ) → Place → typed.Items → typed.Function
function_with s x k q js = record {
  name = x.name;
  place = x.place;
  parameters = s.parameters;
  result = s.result;
  variables = s.variables;
  effect = s.effect;
  constraints = s.constraints;
  locals = item_types js;
  region = 0;
  regions = k;
  body = js;
  end = q;
}
