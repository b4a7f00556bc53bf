use Rattle.std.proofs.Common.{◌≡◌, ℕ, ◌+◌, ◌<◌, ◌∙◌, true, suc, List, length, take, Some, ap, sym, subst, arith}
use Rattle.std.proofs.lemmas.Option.{slice_get-get_or}
use Rattle.cyc_propagation.specs.declared.fact.Fact.{Fact}
use Rattle.cyc_propagation.specs.inside.Table.{are_known}
use Rattle.cyc_propagation.proofs.Entered.{known_up_to, known_without}
use Rattle.cyc_propagation.proofs.Narrowed.{less_without}
use Rattle.cyc_propagation.proofs.entry.restrict.Goals as goal
use Rattle.cyc_propagation.proofs.entry.restrict.Goals.{then-follows_found, else-follows_found}

pub loop-preserved : goal.loop-preserved
loop-preserved c =
    let a = c.args in
    let old = c.loop in
    let asked = old.asked.items in
    let below : old.kept < length asked = omega (arith, c.loop-test.true, old.invariant.2, old.asked.ok.0) in
    let at = slice_get-get_or asked old.kept _ below ∙ ap Some (sym c.index.ensures) in
    let one : suc old.kept ≡ old.kept + 1 = omega arith in
    elim c.if-follows_found.branch [
      | then-follows_found w ↦ rw w.asked-is (rw w.kept-is (
        old.invariant.0,
        subst (λ (k : ℕ). are_known (take k asked) a.facts.now a.more ≡ true) one
            (known_up_to a.facts.now a.more asked old.kept _ at old.invariant.1 (sym c.follows_found.ensures ∙ w.if-follows_found.true)),
        omega (arith, old.invariant.2),
      ))
      | else-follows_found w ↦ rw w.asked-is (rw w.kept-is (
        λ facts more are.
            subst (λ (less : List Fact). are_known less facts more ≡ true) (sym w.remove.ensures.items) (less_without asked old.kept facts more (old.invariant.0 facts more are)),
        subst (λ (less : List Fact). are_known (take old.kept less) a.facts.now a.more ≡ true) (sym w.remove.ensures.items)
            (known_without a.facts.now a.more asked old.kept old.invariant.1),
        omega (arith, old.invariant.2, w.remove.ensures.len, w.remove.new.self.ok.0, old.asked.ok.0),
      ))
    ]
