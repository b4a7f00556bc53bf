use Rattle.std.proofs.Common.{rules, ◌≡◌, true, nat_eq, length, subst}
use Rattle.cyc_scope.specs.inside.Plain.{AreVariables}
use Rattle.cyc_scope.proofs.PlainLemmas.{none_at_all}
use Rattle.cyc_scope.proofs.plain.is_plain.Goals as goal

pub returns : goal.returns
returns c apart =
    let s = c.args.signature.now in
    let none : nat_eq (length s.constraints.items) 0 ≡ true = search rules in
    let same : c.is_same_everywhere.result ≡ true = search rules in
    let known : c.are_variables.result ≡ true = search rules in
    let is : c.deref.result.now ≡ s.effect.items = search rules in
    record {
      ascend = c.are_apart.ensures apart;
      effect = subst (λ rs. AreVariables s.variables rs) is (c.are_variables.ensures known);
      constraints = none_at_all s.constraints.items none;
      result = c.is_same_everywhere.ensures same;
    }
