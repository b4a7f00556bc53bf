use Rattle.std.proofs.Common.{◌≡◌, ◌+◌, ◌-◌, ℕ, drop, sym, subst, arith}
use Rattle.std.proofs.lemmas.List.{drop_all}
use Rattle.cyc_types.specs.inside.ConstraintPlaces.{AreFirst}
use Rattle.cyc_types.proofs.PlaceLemmas.{none_first, first_more}
use Rattle.cyc_types.proofs.constraint_table.ConstraintTable.new.Goals as goal

pub loop-i-init : goal.loop-i-init
loop-i-init c =
    let all = c.args.constraints.items in
    subst (λ last. AreFirst all last c.new-places.result) (sym (drop_all c.len-i.result all (omega (arith, c.len-i.ensures, c.args.constraints.ok.0))))
    (none_first all c.new-places.result c.new-places.ensures)

pub loop-i-preserved : goal.loop-i-preserved
loop-i-preserved c =
    let all = c.args.constraints.items in
    let next : c.loop-i.i ≡ (c.loop-i.i - 1) + 1 = omega (arith, c.loop-i-test.true) in
    first_more all (c.loop-i.i - 1) c.index.result.now c.loop-i.places c.set.new.self (omega arith) c.index.ensures
    (subst (λ (n : ℕ). AreFirst all (drop n all) c.loop-i.places) next c.loop-i.invariant)
    c.in_ok-set.ensures
