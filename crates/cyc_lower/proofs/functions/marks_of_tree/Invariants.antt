use Rattle.std.proofs.Common.{◌≡◌, length}
use Rattle.cyc_lower.proofs.functions.marks_of_tree.Given as goal

-- Loop invariant: the list of source-position tables has one entry for each function visited so far.
abbrev pub invariant-loop-function : goal.invariant-loop-function
invariant-loop-function l = length l.all.items ≡ l.function-index
