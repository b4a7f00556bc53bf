use Rattle.std.proofs.Common.{slice_get, take, refl, sym, ap, ◌∙◌, add-one}
use Rattle.std.proofs.lemmas.Option.{slice_get_read}
use Rattle.cyc_calls.specs.inside.Passing.{with_kinds_at, all_with_kinds}
use Rattle.cyc_calls.proofs.PassedValues.{none_set, set_more}
use Rattle.cyc_calls.proofs.passing.set_all_kinds.Goals as goal

pub loop-i-init : goal.loop-i-init
loop-i-init c = sym (none_set c.args.values.now.items)

pub loop-i-preserved : goal.loop-i-preserved
loop-i-preserved c =
    let cs = c.args.values.now.items in
    let ts = c.args.types.now in
    let i = c.loop-i.i in
    let t = c.index-types-i.result in
    c.set_kinds_at.ensures ∙ ap (λ ds. with_kinds_at (slice_get ds i) ds i t) c.loop-i.invariant
    ∙ set_more cs ts i t (slice_get_read ts _ i t refl c.loop-i-test.true c.index-types-i.is) ∙ ap (λ k. all_with_kinds cs (take k ts)) (sym (add-one i))
