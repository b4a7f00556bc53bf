use Rattle.std.proofs.Common.{drop}
use Rattle.cyc_propagation.proofs.Ranges.{AreRangesBut}
use Rattle.cyc_propagation.proofs.pins.ranges_of.Given as goal

-- Loop invariant: each slot whose address an instruction visited so far takes lies in one of the ranges.
abbrev pub invariant-loop-index : goal.invariant-loop-index
invariant-loop-index l = AreRangesBut l.code (drop l.index l.code) l.ranges.items
