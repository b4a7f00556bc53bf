use Rattle.std.proofs.Common.{◌∙◌, sym}
use Rattle.std.proofs.lemmas.Option.{slice_get-get_or}
use Rattle.cyc_propagation.proofs.Ranges.{no_range, one_range}
use Rattle.cyc_propagation.proofs.pins.ranges_of.Goals as goal
use Rattle.cyc_propagation.proofs.pins.ranges_of.Goals.{in-Some+in_ok-push, in_default}

pub loop-index-preserved : goal.loop-index-preserved
loop-index-preserved c = elim c.match-range_of.branch [
  | in-Some+in_ok-push w ↦
      let at = slice_get-get_or c.args.code.now c.loop-index.index _ c.loop-index-test.true in
      rw w.ranges-is (rw w.in_ok-push.ensures.items
      (one_range c.args.code.now c.loop-index.index _ c.loop-index.ranges.items at c.loop-index.invariant w.in-Some.range (sym c.range_of.ensures ∙ w.in-Some.is)))
  | in_default w ↦
      let at = slice_get-get_or c.args.code.now c.loop-index.index _ c.loop-index-test.true in
      rw w.ranges-is (no_range c.args.code.now c.loop-index.index _ c.loop-index.ranges.items at c.loop-index.invariant (sym c.range_of.ensures ∙ w.in_default.is))
]
