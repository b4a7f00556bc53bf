use Rattle.std.proofs.Common.{◌≤◌, length}
use Rattle.cyc_inline.proofs.leaf.line_of.Given as goal

abbrev pub invariant-loop-index : goal.invariant-loop-index
invariant-loop-index l = l.line ≤ length l.code
