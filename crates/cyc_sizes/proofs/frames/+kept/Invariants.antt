use Rattle.cyc_sizes.proofs.NeedsFound.{ItemsKeptLeft, ClausesKeptLeft}
use Rattle.cyc_sizes.proofs.frames.+kept.Given as goal

abbrev pub invariant-kept_by_items-loop-item : goal.invariant-kept_by_items-loop-item
invariant-kept_by_items-loop-item l = ItemsKeptLeft l.items l.item-index l.words

abbrev pub invariant-kept_by_clauses-loop-clause : goal.invariant-kept_by_clauses-loop-clause
invariant-kept_by_clauses-loop-clause l = ClausesKeptLeft l.clauses l.clause-index l.words
