use Rattle.std.proofs.Common.{◌≡◌, length}
use Rattle.cyc_inline.specs.inside.Emission.{AreLeafs}
use Rattle.cyc_inline.proofs.leaf.leafs_of.Given as goal

-- Invariant: each function visited so far is a leaf function if the list gives it a positive number of instructions
-- placed at an inlined call.
abbrev pub invariant-loop-number : goal.invariant-loop-number
invariant-loop-number l = record { leafs : AreLeafs l.plain l.lines.items; as_many : length l.lines.items ≡ l.number }
