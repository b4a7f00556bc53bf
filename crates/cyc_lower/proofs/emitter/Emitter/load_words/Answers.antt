use Rattle.std.proofs.Common.{◌≡◌, ℕ, ◌+◌, [], ◌∷◌, ◌++◌, ap, ◌∙◌, arith}
use Rattle.cyc_meaning.specs.Values.{words_of_kind}
use Rattle.cyc_plain.specs.declared.instruction.Instruction.{Instruction}
use Rattle.cyc_lower_proof.specs.inside.ObjectCode.{load_at}
use Rattle.cyc_lower.proofs.emission.Emitting.{words_begin, words_next, word_code_ends}
use Rattle.cyc_lower.proofs.emitter.Emitter.load_words.Goals as goal

pub loop-index-init : goal.loop-index-init
loop-index-init c = words_begin (load_at c.args.kind c.args.address) c.args.self.now.code.items (words_of_kind c.args.kind) 0 c.args.slot

pub loop-index-preserved : goal.loop-index-preserved
loop-index-preserved c =
    let code = c.loop-index.self.code.items in
    let first : c.loop-index.index ≡ 0 + c.loop-index.index = omega arith in
    words_next (load_at c.args.kind c.args.address) c.args.self.now.code.items code c.emit.new.self.code.items (words_of_kind c.args.kind) 0 c.args.slot c.loop-index.index
    (omega (arith, c.loop-index-test.true, c.words_of_kind-words.ensures.words))
    (c.in_ok-emit.ensures
    ∙ ap (λ (i : Instruction). code ++ i ∷ []) c.load_of.ensures
    ∙ ap (λ (n : ℕ). code ++ load_at c.args.kind c.args.address n (c.args.slot + c.loop-index.index) ∷ []) first) c.loop-index.invariant

pub returns : goal.returns
returns c =
    word_code_ends (load_at c.args.kind c.args.address) c.args.self.now.code.items c.loop-index.self.code.items (words_of_kind c.args.kind) 0 c.args.slot c.loop-index.index
    (omega (arith, c.loop-index-test.false, c.words_of_kind-words.ensures.words)) c.loop-index.invariant
