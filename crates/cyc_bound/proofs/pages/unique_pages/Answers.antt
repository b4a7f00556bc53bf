use Rattle.std.proofs.Common.{ℕ, Option, refl, subst, arith}
use Rattle.cyc_types.specs.TypedTreeView.{view_program}
use Rattle.cyc_bound.specs.declared.costs.Measure.TheVariants as measures
use Rattle.cyc_bound.specs.inside.Rounds.{IsFound}
use Rattle.cyc_bound.proofs.UniqueLemmas.{so_far_none, so_far_more, so_far_all, not_found, too_many_cost}
use Rattle.cyc_bound.proofs.pages.unique_pages.Goals as goal

pub loop-class-init : goal.loop-class-init
loop-class-init c = so_far_none (view_program c.args.tree.now)

pub returns-in_default : goal.returns-in_default
returns-in_default c =
    let m = measures.Uniques c.loop-class.class in
    (c.loop-class.class, omega (arith, c.loop-class-test.true), not_found (view_program c.args.tree.now) m _ c.in_default.not-Some c.in_ok-blocks.ensures)

pub returns-then-blocks-ge-TOO_MANY : goal.returns-then-blocks-ge-TOO_MANY
returns-then-blocks-ge-TOO_MANY c =
    let p = view_program c.args.tree.now in
    let m = measures.Uniques c.loop-class.class in
    let is = subst (λ (o : Option ℕ). IsFound p m o) c.in-Some.is c.in_ok-blocks.ensures in
    (c.loop-class.class, omega (arith, c.loop-class-test.true), too_many_cost p m c.in-Some.blocks is (omega (arith, c.if-blocks-ge-TOO_MANY.true)))

pub loop-class-preserved : goal.loop-class-preserved
loop-class-preserved c =
    let p = view_program c.args.tree.now in
    let is = subst (λ (o : Option ℕ). IsFound p (measures.Uniques c.loop-class.class) o) c.in-Some.is c.in_ok-blocks.ensures in
    so_far_more p c.loop-class.class c.loop-class.pages c.in-Some.blocks c.pages_for-pages.result _ (omega (arith, c.loop-class-test.true)) c.loop-class.invariant is
    (omega (arith, c.if-blocks-ge-TOO_MANY.false)) c.pages_for-pages.ensures refl

pub returns : goal.returns
returns c = so_far_all (view_program c.args.tree.now) c.loop-class.class c.loop-class.pages (omega (arith, c.loop-class-test.false)) (omega (arith, c.loop-class.auto.class-end)) c.loop-class.invariant
