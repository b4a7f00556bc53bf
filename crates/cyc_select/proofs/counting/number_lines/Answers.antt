use Rattle.std.proofs.Common.{◌+◌, sym, subst}
use Rattle.cyc_select.specs.inside.Emission.{AreNumbered}
use Rattle.cyc_select.proofs.emission.Numbering.{numbered_more}
use Rattle.cyc_select.proofs.counting.number_lines.Goals as goal

pub loop-function-preserved : goal.loop-function-preserved
loop-function-preserved c =
    let program = c.args.plain.now in
    let frames = c.args.frames.now in
    let k = c.loop-function.function in (
      subst (AreNumbered program frames (k + 1)) (sym c.in_ok-push.ensures.items)
          (numbered_more program frames k c.loop-function.functions.items _ c.loop-function.invariant.0
          (record { first_is = c.loop-function.invariant.1; lines_are = c.in_ok-counted.ensures.lines })),
      c.in_ok-counted.ensures.following,
    )
