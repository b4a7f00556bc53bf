use Rattle.std.proofs.Common.{◌≡◌, ◌<◌, List, [], ◌∷◌, ◌++◌, length, sym, ap, subst, ◌∙◌, arith, length-append}
use Rattle.cyc_plain.specs.inside.Program.{Routine, routine_of}
use Rattle.std.proofs.lemmas.List.{length-map}
use Rattle.cyc_inline.specs.inside.Changes.{IsChange, AreBegun}
use Rattle.cyc_inline.proofs.EmissionPrograms.{begun_first, begun_next}
use Rattle.cyc_inline.proofs.inlining.changes_of.Goals as goal

pub loop-number-init : goal.loop-number-init
loop-number-init c =
    let none = c.in_ok-changes.ensures.items in (
      ap (λ cs. length cs) none,
      subst (λ cs. AreBegun c.args.plain.now c.args.room cs c.spare_for-spare.result) (sym none)
          (begun_first c.args.plain.now c.args.room c.spare_for-spare.result c.functions-count.ensures.plain.small c.spare_for-spare.ensures),
    )

pub loop-number-preserved : goal.loop-number-preserved
loop-number-preserved c =
    let program = c.args.plain.now in
    let at = c.loop-number in
    let (many, begun) = at.invariant in
    let long : length c.functions-count.result.now ≡ length program.functions = sym (length-map c.functions-count.result.now routine_of) ∙ ap (λ (rs : List Routine). length rs) c.functions-count.ensures.value in
    let below = c.loop-number-test.true in
    let known : length at.changes.items < length program.functions = omega (arith, many, long, below) in
    let change = c.in_ok-change.change in
    let next = begun_next program c.args.room at.changes.items at.spare change begun known (subst (λ n. IsChange program n at.spare change) (sym many) c.in_ok-change.ensures) in
    let items = c.in_ok-push.ensures.items in (
      (let longer = ap (λ cs. length cs) items in omega (arith, many, longer, length-append at.changes.items (change ∷ []))),
      subst (λ cs. AreBegun program c.args.room cs c.left_of-spare.result) (sym items) (subst (AreBegun program c.args.room (at.changes.items ++ change ∷ [])) (sym c.left_of-spare.ensures) next),
    )
