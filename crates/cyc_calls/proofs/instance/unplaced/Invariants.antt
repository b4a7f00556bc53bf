use Rattle.std.proofs.Common.{◌≡◌, ◌-◌, ◌≤◌, replicate, None}
use Rattle.cyc_calls.proofs.instance.unplaced.Given as goal

abbrev pub decreases-loop-left : goal.decreases-loop-left
decreases-loop-left l = l.left

abbrev pub invariant-loop-left : goal.invariant-loop-left
invariant-loop-left l = record { most : l.left ≤ l.count; filled : l.table.items ≡ replicate (l.count - l.left) None }
