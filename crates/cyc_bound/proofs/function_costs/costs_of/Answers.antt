use Rattle.std.proofs.Common.{ℕ, List, subst, arith}
use Rattle.cyc_types.specs.TypedTreeView.{view_program}
use Rattle.cyc_bound.specs.Costs.{IsClosed}
use Rattle.cyc_bound.proofs.RoundLemmas.{after_more, after_all}
use Rattle.cyc_bound.proofs.function_costs.costs_of.Goals as goal

pub loop-round-preserved : goal.loop-round-preserved
loop-round-preserved c =
    let p = view_program c.args.tree.now in
    let m = c.args.measure in
    after_more p m c.loop-round._round c.loop-round.costs.items c.raise_all.new.costs.items c.loop-round.invariant c.raise_all.ensures
    (subst (λ (l : List ℕ). IsClosed p m l → ⊥) c.deref.ensures.value (c.is_closed.ensures.no c.if-is_closed.false))

pub returns : goal.returns
returns c =
    after_all (view_program c.args.tree.now) c.args.measure c.loop-round._round c.loop-round.costs.items (omega (arith, c.loop-round-test.false)) (omega (arith, c.loop-round.auto._round-end)) c.loop-round.invariant
