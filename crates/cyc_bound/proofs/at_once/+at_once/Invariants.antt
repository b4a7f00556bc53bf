use Rattle.std.proofs.Common.{◌≡◌}
use Rattle.cyc_bound.proofs.AtOnceFound.{ItemsLeft, ClausesLeft}
use Rattle.cyc_bound.proofs.at_once.+at_once.Given as goal

abbrev pub invariant-items_at_once-loop-item : goal.invariant-items_at_once-loop-item
invariant-items_at_once-loop-item l = record {
  here : l.place ≡ l.item-index;
  left : ItemsLeft l.measure l.costs l.items l.item-index l.most;
}

abbrev pub invariant-clauses_at_once-loop-clause : goal.invariant-clauses_at_once-loop-clause
invariant-clauses_at_once-loop-clause l = ClausesLeft l.measure l.costs l.clauses l.clause-index l.most
