use Rattle.cyc_propagation.proofs.Narrowed.{narrowed_again}
use Rattle.cyc_propagation.proofs.walk.come_next.Goals as goal

pub returns-clause-narrowed : goal.returns-clause-narrowed
returns-clause-narrowed c index below = narrowed_again index _ _ _ (c.in_ok-begin_at.ensures index below) (c.in_ok-is_known.ensures.narrowed index below)
