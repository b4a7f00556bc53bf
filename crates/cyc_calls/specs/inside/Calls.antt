-- The requirements of the typing rules on a call, divided into the requirements on regions and all
-- requirements that do not concern regions.
use Rattle.std.specs.Prelude.{List, ◌++◌, map}
use Rattle.cyc_syntax.specs.Symbols.{Place}
use Rattle.cyc_syntax.specs.Trees.{Expressions}
use Rattle.cyc_types.specs.declared.region.Region.{Region}
use Rattle.cyc_types.specs.Types.{substituted_region}
use Rattle.cyc_types.specs.TypedTrees.{Signature}
use Rattle.cyc_types.specs.TypedTrees as typed
use Rattle.cyc_types.specs.inside.SignatureView.{substituted_pair}
use Rattle.cyc_types.specs.Rules.{Demand, Rule, Own}
use Rattle.cyc_types.specs.typing.Scopes.{Scope}
use Rattle.cyc_types.specs.typing.Expressions.{constraints_demanded, effect_demanded, call_demanded, instance_of, instantiated}

-- Returns a call's requirements on regions, given the regions of the signature's region variables.
abbrev pub regions_demanded : Scope → Place → List Region → Signature → List Demand
regions_demanded g p m s =
    constraints_demanded g.regions p (map (substituted_pair m) s.constraints) ++ effect_demanded g p (map (substituted_region m) s.effect)

-- Returns the regions of the signature's region variables, if the call has no fault.
abbrev pub instance_wanted : Scope → Place → Expressions → List typed.Expression → Signature → Rule (List Region)
instance_wanted g p es as' s = Own (call_demanded g p es as' s (instantiated (instance_of s as') s)) (instance_of s as')
