use Rattle.cyc_sizes.proofs.TokensCounted.{ItemsLeft, ClausesLeft}
use Rattle.cyc_sizes.proofs.weights.+statements.Given as goal

abbrev pub invariant-items_weight-loop-item : goal.invariant-items_weight-loop-item
invariant-items_weight-loop-item l = ItemsLeft l.items l.item-index l.weight

abbrev pub invariant-clauses_weight-loop-clause : goal.invariant-clauses_weight-loop-clause
invariant-clauses_weight-loop-clause l = ClausesLeft l.clauses l.clause-index l.weight
