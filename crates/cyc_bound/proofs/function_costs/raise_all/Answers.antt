use Rattle.std.proofs.Common.{ℕ, ◌+◌, List, subst, sym, arith}
use Rattle.cyc_types.specs.TypedTreeView.{view_program}
use Rattle.cyc_bound.proofs.RoundLemmas.{AreRaisedTo, to_same, to_next}
use Rattle.cyc_bound.proofs.function_costs.raise_all.Goals as goal

pub loop-function-preserved : goal.loop-function-preserved
loop-function-preserved c =
    let p = view_program c.args.tree.now in
    let before = c.args.costs.now.items in
    subst (λ (l : List ℕ). AreRaisedTo p c.args.measure before 0 l) (sym c.raise.ensures) (to_same p c.args.measure before 0 c.loop-function.costs.items _ c.loop-function.invariant)

pub loop-function-2-preserved : goal.loop-function-2-preserved
loop-function-2-preserved c =
    let p = view_program c.args.tree.now in
    let before = c.args.costs.now.items in
    let i = c.loop-function-2.function in
    subst (λ (l : List ℕ). AreRaisedTo p c.args.measure before (i + 1) l) (sym c.raise-in-loop-function-2.ensures)
    (to_next p c.args.measure before i c.loop-function-2.costs.items c.loop-function-2.invariant (omega (arith, c.loop-function-2-test.true, c.requires, c.args.costs.now.ok.0, c.len-function-end.ensures)))
