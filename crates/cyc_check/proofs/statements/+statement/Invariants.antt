use Rattle.std.proofs.Common.{drop}
use Rattle.cyc_syntax.specs.Trees.{NoClauses}
use Rattle.cyc_syntax.specs.inside.TreeView.{items_of, clauses_of}
use Rattle.cyc_check.proofs.Blocks.{Walked}
use Rattle.cyc_check.proofs.Clauses.{CaughtSoFar}
use Rattle.cyc_check.proofs.statements.+statement.Given as goal

abbrev pub invariant-check_items-loop-item : goal.invariant-check_items-loop-item
invariant-check_items-loop-item l = Walked l.fn.scope l.scope l.all.items (items_of (drop l.item-index l.items)) (items_of l.items)

abbrev pub invariant-check_clauses-loop-clause : goal.invariant-check_clauses-loop-clause
invariant-check_clauses-loop-clause l = CaughtSoFar l.fn.scope l.scope l.before l.all.items (clauses_of (drop l.clause-index l.clauses) NoClauses) (clauses_of l.clauses NoClauses)
