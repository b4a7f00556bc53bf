use Rattle.std.proofs.Common.{◌≡◌}
use Rattle.cyc_bound.proofs.loops.+inside.Given as goal

abbrev pub invariant-items_inside-loop-item : goal.invariant-items_inside-loop-item
invariant-items_inside-loop-item l = l.place ≡ l.item-index
