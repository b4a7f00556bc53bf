use Rattle.cyc_lower.proofs.emission.Breaks.{ItemsStay, ClausesStay}
use Rattle.cyc_lower.proofs.breaks.+breaks.Given as goal

-- Loop invariant: none of the declarations and statements visited so far has a `break` that leaves the loop.
abbrev pub invariant-items_break-loop-item : goal.invariant-items_break-loop-item
invariant-items_break-loop-item l = ItemsStay l.items l.item-index

-- Loop invariant: none of the catch clauses visited so far has a `break` that leaves the loop.
abbrev pub invariant-clauses_break-loop-clause : goal.invariant-clauses_break-loop-clause
invariant-clauses_break-loop-clause l = ClausesStay l.clauses l.clause-index
