use Rattle.std.proofs.Common.{ℕ, List, length, ◌∙◌, sym, ap, subst}
use Rattle.std.proofs.lemmas.List.{length-set}
use Rattle.cyc_lower.specs.declared.conditions.Pending.{Pending}
use Rattle.cyc_lower.specs.inside.Emission.{failed, AreBefore}
use Rattle.cyc_lower.proofs.emission.Conditions.{failed_long}
use Rattle.cyc_lower.proofs.emitter.Emitter.fail_here.Goals as goal

pub lead_here-requires : goal.lead_here-requires
lead_here-requires c =
    let long = ap length c.jump_here_if_failing.ensures ∙ length-set c.args.self.now.code.items c.args.place _ in
    subst (λ (n : ℕ). AreBefore c.deref.result.now n) (sym long) (subst (λ (js : List Pending). AreBefore js (length c.args.self.now.code.items)) (sym c.deref.ensures.value) c.requires.1)

pub returns : goal.returns
returns c =
    let code = c.jump_here_if_failing.new.self.code.items in
    let long = ap length c.jump_here_if_failing.ensures ∙ length-set c.args.self.now.code.items c.args.place _ in
    let early = c.args.tested.now.early.items in
    record {
      code = c.lead_here.ensures
          ∙ ap (λ (js : List Pending). failed js (length code) code) c.deref.ensures.value
          ∙ ap (λ (n : ℕ). failed early n code) long
          ∙ ap (failed early (length c.args.self.now.code.items)) c.jump_here_if_failing.ensures;
      long = ap length c.lead_here.ensures ∙ failed_long c.deref.result.now (length code) code ∙ long;
    }
