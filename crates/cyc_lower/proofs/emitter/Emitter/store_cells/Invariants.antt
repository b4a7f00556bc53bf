use Rattle.cyc_lower.proofs.emission.CellCode.{BytesLeft, SlotsLeft, CellsLeft}
use Rattle.cyc_lower.proofs.emitter.Emitter.store_cells.Given as goal

abbrev pub invariant-loop-kind : goal.invariant-loop-kind
invariant-loop-kind l =
    CellsLeft l.fn.self.code.items l.kinds l.address l.first l.kind-index l.self.code.items l.bytes l.slot
    × BytesLeft l.kinds l.kind-index l.bytes
    × SlotsLeft l.kinds l.first l.kind-index l.slot
