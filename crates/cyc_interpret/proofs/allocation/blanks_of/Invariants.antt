use Rattle.std.proofs.Common.{◌≡◌, map, take}
use Rattle.cyc_meaning.specs.Allocation.{blanks_of}
use Rattle.cyc_interpret.specs.WorldView.{view_cell, operands_of}
use Rattle.cyc_interpret.proofs.allocation.blanks_of.Given as goal

abbrev pub invariant-loop-value : goal.invariant-loop-value
invariant-loop-value l = map view_cell l.cells.items ≡ blanks_of (operands_of (take l.value-index l.values.items))
