use Rattle.std.proofs.Common.{sym, ◌∙◌, arith, reverse}
use Rattle.cyc_words.proofs.Booleans.{never_true_and_false}
use Rattle.cyc_types.specs.Outlives.{is_outlived_by_live}
use Rattle.cyc_types.specs.Closure.{written_in}
use Rattle.cyc_types.specs.inside.Openings.{scope_at}
use Rattle.cyc_types.proofs.RegionLemmas.{derived-region_eq, region_eq-true}
use Rattle.cyc_types.proofs.ClosureLemmas.{leads-above}
use Rattle.cyc_types.proofs.OpeningLemmas.{leads-by_place, leads-by_no_place}
use Rattle.cyc_types.proofs.openings.leads_in_order.Goals as goal
use Rattle.cyc_types.proofs.openings.leads_in_order.Goals.{else-eq-via-then-eq+else-is_outlived_by_live, else-eq-via-else-eq}
use Rattle.cyc_types.proofs.TableLemmas.{eq_true_at}

pub returns-then-table_leads : goal.returns-then-table_leads
returns-then-table_leads c =
    sym (leads-above (written_in c.args.constraints.now) c.args.live.now (reverse c.args.scopes.now) c.args.a c.args.b
    (sym (c.requires.closed c.args.a c.args.b) ∙ sym c.table_leads.ensures ∙ c.if-table_leads.true))

pub returns-then-is_outlived_by_live : goal.returns-then-is_outlived_by_live
returns-then-is_outlived_by_live c =
    let scope = scope_at c.args.scopes.now c.opening_of-place.result in
    c.is_above_live_before.ensures
    ∙ leads-by_place (written_in c.args.constraints.now) c.args.live.now c.args.openings.now c.args.scopes.now c.requires.order c.args.a c.args.b
    c.opening_of-place.result c.opening_of-place.ensures c.if-place-scopes.true
    (region_eq-true scope.region c.args.b (sym (derived-region_eq scope.region c.args.b) ∙ sym c.eq.ensures ∙ c.if-eq.true))
    (sym c.is_outlived_by_live.ensures ∙ c.if-is_outlived_by_live.true)
    (sym (c.requires.closed c.args.a c.args.b) ∙ sym c.table_leads.ensures ∙ c.if-table_leads.false)

pub returns-else-eq : goal.returns-else-eq
returns-else-eq c =
    sym (leads-by_no_place (written_in c.args.constraints.now) c.args.live.now c.args.openings.now c.args.scopes.now c.requires.order c.args.a c.args.b
    c.opening_of-place.result c.opening_of-place.ensures
    (sym (c.requires.closed c.args.a c.args.b) ∙ sym c.table_leads.ensures ∙ c.if-table_leads.false)
    (λ lt same k. elim c.else-eq.branch [
      | else-eq-via-then-eq+else-is_outlived_by_live v ↦ never_true_and_false k (sym v.is_outlived_by_live.ensures ∙ v.if-is_outlived_by_live.false)
      | else-eq-via-else-eq v ↦
          let scope = scope_at c.args.scopes.now c.opening_of-place.result in
          never_true_and_false (eq_true_at scope.region c.args.b same) (sym (derived-region_eq scope.region c.args.b) ∙ sym c.eq.ensures ∙ v.if-eq.false)
    ]))

pub returns-else-place-scopes : goal.returns-else-place-scopes
returns-else-place-scopes c =
    sym (leads-by_no_place (written_in c.args.constraints.now) c.args.live.now c.args.openings.now c.args.scopes.now c.requires.order c.args.a c.args.b
    c.opening_of-place.result c.opening_of-place.ensures
    (sym (c.requires.closed c.args.a c.args.b) ∙ sym c.table_leads.ensures ∙ c.if-table_leads.false)
    (λ lt same k. omega (arith, lt, c.if-place-scopes.false)))
