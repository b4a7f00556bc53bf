use Rattle.cyc_sizes.proofs.NeedsFound.{ItemsLeft, ClausesLeft}
use Rattle.cyc_sizes.proofs.frames.+greatest.Given as goal

abbrev pub invariant-items_need-loop-item : goal.invariant-items_need-loop-item
invariant-items_need-loop-item l = ItemsLeft l.items l.item-index l.need

abbrev pub invariant-clauses_need-loop-clause : goal.invariant-clauses_need-loop-clause
invariant-clauses_need-loop-clause l = ClausesLeft l.clauses l.clause-index l.need
