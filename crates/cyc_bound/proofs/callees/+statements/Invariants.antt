use Rattle.cyc_bound.proofs.CalleesFound.{ItemsLeft, ClausesLeft}
use Rattle.cyc_bound.proofs.callees.+statements.Given as goal

abbrev pub invariant-add_items-loop-item : goal.invariant-add_items-loop-item
invariant-add_items-loop-item l = ItemsLeft l.items l.item-index l.fn.found.items l.found.items

abbrev pub invariant-add_clauses-loop-clause : goal.invariant-add_clauses-loop-clause
invariant-add_clauses-loop-clause l = ClausesLeft l.clauses l.clause-index l.fn.found.items l.found.items
