use Rattle.std.proofs.Common.{◌≡◌, ◌≤◌, ◌*◌, map, drop}
use Rattle.cyc_meaning.specs.Values.{kinds_of, bytes_from}
use Rattle.cyc_interpret.specs.WorldView.{view_cell}
use Rattle.cyc_interpret.proofs.sizes.block_size.Given as goal

abbrev pub invariant-loop-cell : goal.invariant-loop-cell
invariant-loop-cell l = record {
  rest : bytes_from 0 (kinds_of (map view_cell l.cells.items)) ≡ bytes_from l.at (kinds_of (map view_cell (drop l.cell-index l.cells.items)));
  near : l.at ≤ 16 * l.cell-index;
}
