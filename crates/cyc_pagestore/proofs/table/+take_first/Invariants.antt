use Rattle.cyc_pagestore.proofs.First.{true_count}
use Rattle.cyc_pagestore.proofs.table.+take_first.Given as goal

abbrev pub decreases-take_first : goal.decreases-take_first
decreases-take_first l = true_count l.pool.now.free
