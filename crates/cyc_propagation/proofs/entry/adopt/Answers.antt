use Rattle.std.proofs.Common.{arith}
use Rattle.cyc_propagation.proofs.Narrowed.{none_narrowed, narrowed_again}
use Rattle.cyc_propagation.proofs.entry.adopt.Goals as goal

pub loop-place-init : goal.loop-place-init
loop-place-init c index below = none_narrowed index _

pub loop-place-preserved : goal.loop-place-preserved
loop-place-preserved c index below =
    narrowed_again index _ _ _ (c.loop-place.invariant index below) (c.adopt_at.ensures index (omega (arith, below, c.loop-place.auto.place)))
