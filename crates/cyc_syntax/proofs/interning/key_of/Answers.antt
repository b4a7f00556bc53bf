use Rattle.std.proofs.Common.{◌+◌, ◌*◌, ◌%◌, ◌^◌, get_or, sym, ap, ◌∙◌}
use Rattle.std.proofs.lemmas.List.Sums.{fold_more}
use Rattle.cyc_syntax.proofs.interning.key_of.Goals as goal

pub loop-byte-preserved : goal.loop-byte-preserved
loop-byte-preserved c =
    ap (λ byte. (c.loop-byte.key * 257 % 2 ^ 64 + byte) % 2 ^ 64) c.from.ensures
    ∙ ap (λ key. (key * 257 % 2 ^ 64 + get_or c.args.text.now c.loop-byte.byte-index 0) % 2 ^ 64) c.loop-byte.invariant
    ∙ sym (fold_more (λ key byte. (key * 257 % 2 ^ 64 + byte) % 2 ^ 64) 0 c.args.text.now c.loop-byte.byte-index 0 c.loop-byte-test.true)
