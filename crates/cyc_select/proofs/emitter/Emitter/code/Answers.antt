use Rattle.cyc_words.proofs.Lists.{append_goes_on}
use Rattle.cyc_select.proofs.emission.Numbering.{code_next}
use Rattle.cyc_select.proofs.emitter.Emitter.code.Goals as goal

pub loop-index-preserved : goal.loop-index-preserved
loop-index-preserved c =
    append_goes_on _ _ _ _ _ _ c.in_ok-instruction.ensures
    (code_next c.args.tables.now.plain.now c.args.tables.now.frames.now c.args.tables.now.function c.args.code.now c.loop-index.index _ c.requires.code c.loop-index-test.true)
    c.loop-index.invariant
