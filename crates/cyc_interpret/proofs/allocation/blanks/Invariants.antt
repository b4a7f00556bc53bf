use Rattle.std.proofs.Common.{◌≡◌, map}
use Rattle.cyc_meaning.specs.Allocation.{blanks}
use Rattle.cyc_interpret.specs.WorldView.{view_cell}
use Rattle.cyc_interpret.proofs.allocation.blanks.Given as goal

abbrev pub invariant-loop : goal.invariant-loop
invariant-loop l = map view_cell l.cells.items ≡ blanks l.counter l.kind
