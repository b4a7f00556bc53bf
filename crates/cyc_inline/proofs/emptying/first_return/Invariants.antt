use Rattle.std.proofs.Common.{◌≡◌, ◌+◌, drop}
use Rattle.cyc_inline.specs.inside.Emptied.{first_return}
use Rattle.cyc_inline.proofs.emptying.first_return.Given as goal

-- Invariant: none of the instructions visited so far is a return.
abbrev pub invariant-loop-index : goal.invariant-loop-index
invariant-loop-index l = first_return l.code ≡ l.index + first_return (drop l.index l.code)
