use Rattle.cyc_meaning.specs.Values.{words_of_kind}
use Rattle.cyc_lower.proofs.emission.CellCode.{StoresLeft}
use Rattle.cyc_lower.proofs.emitter.Emitter.store_cell.Given as goal

abbrev pub invariant-loop-index : goal.invariant-loop-index
invariant-loop-index l = StoresLeft l.fn.self.code.items l.self.code.items l.kind (words_of_kind l.kind) l.address l.offset l.first l.index
