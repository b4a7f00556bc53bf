use Rattle.cyc_lower_proof.specs.inside.ValueCode.{load_word}
use Rattle.cyc_lower.proofs.emission.Emitting.{WordsLeft}
use Rattle.cyc_lower.proofs.emitter.Emitter.load_global.Given as goal

abbrev pub invariant-loop-index : goal.invariant-loop-index
invariant-loop-index l = WordsLeft load_word l.fn.self.code.items l.self.code.items l.words l.first l.slot l.index
