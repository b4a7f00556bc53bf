use Rattle.std.proofs.Common.{◌≡◌, ℕ, List, true, false, ◌∷◌, ◌++◌, ◌+◌, [], sym, ◌∙◌, subst, arith, length}
use Rattle.cyc_types.specs.Outlives.{is_outlived_by_live}
use Rattle.cyc_types.specs.Types.{is_region_among}
use Rattle.cyc_types.specs.Closure.{written_in}
use Rattle.cyc_types.specs.inside.Openings.{IsInOrder, live_before, opening_of}
use Rattle.std.proofs.lemmas.Bool.{not-true}
use Rattle.std.proofs.lemmas.Result.{IfOk-weaker}
use Rattle.cyc_words.proofs.Booleans.{never_true_and_false}
use Rattle.cyc_types.proofs.OpeningLemmas.{in_order-noted, in_order-known, in_order-new}
use Rattle.cyc_types.proofs.openings.opens_in_order.Goals as goal
use Rattle.cyc_types.proofs.openings.opens_in_order.Goals.{else-is_outlived_by_live-via-then-is_outlived_by_live+else-not-is_alone, else-is_outlived_by_live-via-else-is_outlived_by_live}

pub returns-then-is_known-clause-next : goal.returns-then-is_known-clause-next
returns-then-is_known-clause-next c = λ next.
    let all : c.args.in_order ≡ length c.args.scopes.now = omega (arith, c.if-in_order-place.false, c.requires.order.within) in
    in_order-known (written_in c.args.constraints.now) c.args.live.now c.args.openings.now.items c.args.scopes.now c.args.scope
    (subst (λ (n : ℕ). IsInOrder (written_in c.args.constraints.now) c.args.live.now c.args.openings.now.items c.args.scopes.now n) all c.requires.order)
    (sym c.is_outlived_by_live.ensures ∙ not-true c.is_outlived_by_live.result next)
    (sym c.is_live_before-is_known.ensures ∙ c.if-is_known.true)

pub returns-clause-kept : goal.returns-clause-kept
returns-clause-kept c =
    in_order-noted (written_in c.args.constraints.now) c.args.live.now c.args.openings.now.items c.note.new.openings.items c.args.scopes.now c.args.in_order
    c.args.scope.region c.requires.order (sym c.is_live_before-is_known.ensures ∙ c.if-is_known.false) c.note.ensures.others

pub returns-clause-next : goal.returns-clause-next
returns-clause-next c =
    let all : c.args.in_order ≡ length c.args.scopes.now = omega (arith, c.if-in_order-place.false, c.requires.order.within) in
    let apart : is_region_among c.args.scope.region (live_before c.args.live.now c.args.scopes.now (length c.args.scopes.now)) ≡ false =
    sym c.is_live_before-is_known.ensures ∙ c.if-is_known.false in
    let in_order : List ℕ → Type 0 = λ openings. IsInOrder (written_in c.args.constraints.now) c.args.live.now openings (c.args.scopes.now ++ c.args.scope ∷ []) (length c.args.scopes.now + 1) in
    IfOk-weaker c.note.result (λ noted. noted ≡ true → opening_of c.note.new.openings.items c.args.scope.region ≡ length c.args.scopes.now)
    (λ next. next ≡ true → in_order c.note.new.openings.items)
    (λ next noted is.
    in_order-new (written_in c.args.constraints.now) c.args.live.now c.note.new.openings.items c.args.scopes.now c.args.scope
    (subst (λ (n : ℕ). IsInOrder (written_in c.args.constraints.now) c.args.live.now c.note.new.openings.items c.args.scopes.now n) all (returns-clause-kept c))
    (noted is)
    (λ k b. elim c.else-is_outlived_by_live.branch [
      | else-is_outlived_by_live-via-then-is_outlived_by_live+else-not-is_alone v ↦ sym (c.requires.closed c.args.scope.region b) ∙ v.is_alone.ensures (v.if-not-is_alone.false) b
      | else-is_outlived_by_live-via-else-is_outlived_by_live v ↦ absurd (never_true_and_false k (sym c.is_outlived_by_live-2.ensures ∙ v.if-is_outlived_by_live.false))
    ])
    apart)
    c.note.ensures.noted
