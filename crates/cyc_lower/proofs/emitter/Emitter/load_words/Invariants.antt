use Rattle.cyc_meaning.specs.Values.{words_of_kind}
use Rattle.cyc_lower_proof.specs.inside.ObjectCode.{load_at}
use Rattle.cyc_lower.proofs.emission.Emitting.{WordsLeft}
use Rattle.cyc_lower.proofs.emitter.Emitter.load_words.Given as goal

abbrev pub invariant-loop-index : goal.invariant-loop-index
invariant-loop-index l = WordsLeft (load_at l.kind l.address) l.fn.self.code.items l.self.code.items (words_of_kind l.kind) 0 l.slot l.index
