use Rattle.std.proofs.Common.{arith}
use Rattle.cyc_scope.proofs.LocalLemmas.{widened}
use Rattle.cyc_scope.proofs.scope.Scope.enter_block.Goals as goal

pub invariant_of-self-2 : goal.invariant_of-self-2
invariant_of-self-2 c = (
  widened c.self.inside.region c.self.inside.next_region c.self.inside.locals (omega (arith, c.self.invariant.1)) c.self.invariant.0,
  omega (arith, c.in_ok-next.ensures.next),
)
