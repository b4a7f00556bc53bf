use Rattle.cyc_bound.proofs.CostsFound.{ItemsLeft, ClausesLeft}
use Rattle.cyc_bound.proofs.tree_costs.+statements.Given as goal

abbrev pub invariant-items_cost-loop-item : goal.invariant-items_cost-loop-item
invariant-items_cost-loop-item l = ItemsLeft l.measure l.costs l.items l.item-index l.total

abbrev pub invariant-clauses_cost-loop-clause : goal.invariant-clauses_cost-loop-clause
invariant-clauses_cost-loop-clause l = ClausesLeft l.measure l.costs l.clauses l.last l.clause-index l.tried l.most
