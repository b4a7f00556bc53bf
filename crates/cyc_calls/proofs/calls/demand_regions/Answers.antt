use Rattle.std.proofs.Common.{rules, ◌≡◌, map, sym, ap, ◌∙◌}
use Rattle.cyc_syntax.specs.inside.TreeView.{place_of_span}
use Rattle.cyc_types.specs.Types.{substituted_region}
use Rattle.cyc_types.specs.inside.SignatureView.{substituted_pair}
use Rattle.cyc_types.specs.Rules.{settled}
use Rattle.cyc_types.specs.typing.Expressions.{constraints_demanded, effect_demanded}
use Rattle.cyc_types.proofs.RuleLaws.{settled_append}
use Rattle.cyc_calls.specs.inside.Instances.{instance_in}
use Rattle.cyc_calls.proofs.calls.demand_regions.Goals as goal

pub returns : goal.returns
returns c =
    let g = c.args.scope.now in
    let p = place_of_span c.args.span in
    let m = instance_in c.args.table.now in
    let constraints = constraints_demanded g.regions p (map (substituted_pair m) c.args.signature.now.constraints.items) in
    let effect = effect_demanded g p (map (substituted_region m) c.args.signature.now.effect.items) in
    let known = c.args.so_far.now.known in
    let k = c.demand_constraints.new.so_far.known in
    let l = c.demand_effect.new.so_far.known in
    let held : k ≡ settled known constraints = search rules in
    let covered : l ≡ settled k effect = search rules in
    covered ∙ ap (λ o. settled o effect) held ∙ sym (settled_append known constraints effect)
