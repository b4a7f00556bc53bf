use Rattle.cyc_lower_proof.specs.inside.ValueCode.{load_word}
use Rattle.cyc_lower.proofs.emission.Emitting.{words_begin, words_next, word_code_ends}
use Rattle.cyc_lower.proofs.emitter.Emitter.load_global.Goals as goal

pub loop-index-init : goal.loop-index-init
loop-index-init c = words_begin load_word c.args.self.now.code.items c.args.words c.args.first c.args.slot

pub loop-index-preserved : goal.loop-index-preserved
loop-index-preserved c =
    words_next load_word c.args.self.now.code.items c.loop-index.self.code.items c.emit.new.self.code.items c.args.words c.args.first c.args.slot c.loop-index.index c.loop-index-test.true c.in_ok-emit.ensures c.loop-index.invariant

pub returns : goal.returns
returns c = word_code_ends load_word c.args.self.now.code.items c.loop-index.self.code.items c.args.words c.args.first c.args.slot c.loop-index.index c.loop-index-test.false c.loop-index.invariant
