use Rattle.std.proofs.Common.{ap, ◌∙◌, [], ◌∷◌, ◌++◌, arith}
use Rattle.cyc_meaning.specs.Values.{words_of_kind}
use Rattle.cyc_plain.specs.declared.instruction.Instruction.{Instruction}
use Rattle.cyc_lower.proofs.emission.CellCode.{stores_begin, stores_next, stores_end}
use Rattle.cyc_lower.proofs.emitter.Emitter.store_cell.Goals as goal

pub loop-index-init : goal.loop-index-init
loop-index-init c = stores_begin c.args.self.now.code.items c.args.kind (words_of_kind c.args.kind) c.args.address c.args.offset c.args.first

pub loop-index-preserved : goal.loop-index-preserved
loop-index-preserved c =
    let code = c.loop-index.self.code.items in
    stores_next c.args.self.now.code.items code c.emit.new.self.code.items c.args.kind (words_of_kind c.args.kind) c.args.address c.args.offset c.args.first c.loop-index.index
    (omega (arith, c.loop-index-test.true, c.words_of_kind-words.ensures.words))
    (c.in_ok-emit.ensures ∙ ap (λ (i : Instruction). code ++ i ∷ []) c.store_of.ensures) c.loop-index.invariant

pub returns : goal.returns
returns c =
    stores_end c.args.self.now.code.items c.loop-index.self.code.items c.args.kind (words_of_kind c.args.kind) c.args.address c.args.offset c.args.first c.loop-index.index
    (omega (arith, c.loop-index-test.false, c.words_of_kind-words.ensures.words)) c.loop-index.invariant
