-- Facts about requirements that are checked one list after the other.
use Rattle.std.proofs.Common.{◌≡◌, true, List, [], ◌∷◌, ◌++◌, Option, Err, refl, sym, ap, ◌∙◌}
use Rattle.std.specs.List.{list_all}
use Rattle.std.proofs.lemmas.Bool.{and_parts}
use Rattle.cyc_words.specs.declared.fault.Fault.{Fault}
use Rattle.cyc_syntax.specs.Symbols.{Place}
use Rattle.cyc_types.specs.Rules.{Demand, noted, settled, unless}
use Rattle.cyc_types.specs.declared.region.Region.{Region}
use Rattle.cyc_types.specs.typing.Scopes.{Scope, is_live}
use Rattle.cyc_types.specs.typing.Expressions.{effect_demanded}
use Rattle.cyc_types.proofs.RuleLaws.{settled_append}
use Rattle.cyc_scope.specs.declared.stop.Stop.{Stop}
use Rattle.cyc_scope.specs.declared.stop.Stop.TheVariants.{Memory, Refused}
use Rattle.cyc_scope.specs.inside.Code.{Stops, Ends}

-- Checking one list of requirements, then one more requirement and a second list, equals checking their concatenation.
pub settled_further : (known k l : Option Fault) (d : Demand) (ds es : List Demand) → k ≡ settled known ds → l ≡ settled (noted k d) es → l ≡ settled known (ds ++ (d ∷ es))
settled_further known k l d ds es h i = i ∙ ap (λ o. settled o (d ∷ es)) h ∙ sym (settled_append known ds (d ∷ es))

-- Checking three lists of requirements in sequence equals checking their concatenation.
pub settled_three : (known k l m : Option Fault) (as' bs cs : List Demand) → k ≡ settled known as' → l ≡ settled k bs → m ≡ settled l cs → m ≡ settled known (as' ++ (bs ++ cs))
settled_three known k l m as' bs cs h i j =
    j ∙ ap (λ o. settled o cs) i ∙ sym (settled_append k bs cs) ∙ ap (λ o. settled o (bs ++ cs)) h ∙ sym (settled_append known as' (bs ++ cs))

-- If all regions of an effect are live, then the requirement on the effect holds.
pub covered_settled : (known : Option Fault) (g : Scope) (p : Place) (rs : List Region) → list_all (λ r. is_live g r) rs ≡ true → settled known (effect_demanded g p rs) ≡ known
covered_settled known g p [] h = refl
covered_settled known g p (r ∷ rs) h =
    let u = and_parts (is_live g r) (list_all (λ s. is_live g s) rs) h in
    rw u.0 (covered_settled known g p rs u.1)

-- If a fault is already known, then the checking function stops with that fault.
pub stops_unless : {Y : Type 0} (e : Stop) (known : Option Fault) (y : Y) → Ends (Err e) known → Stops e (unless known y)
stops_unless Memory known y h = absurd h
stops_unless (Refused f) known y h = ap (λ o. unless o y) h
