use Rattle.cyc_rawpages.proofs.Fresh.{IsLinking}
use Rattle.cyc_rawpages.proofs.pool.link_all.Given as goal

abbrev pub decreases-loop-left : goal.decreases-loop-left
decreases-loop-left l = l.left

abbrev pub invariant-loop-left : goal.invariant-loop-left
invariant-loop-left l = IsLinking l.pages l.fn.block l.block l.first l.left
