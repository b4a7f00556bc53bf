use Rattle.std.proofs.Common.{arith}
use Rattle.cyc_sizes.proofs.NeedsFound.{words_left}
use Rattle.cyc_sizes.proofs.frames.words_of_all.Goals as goal

pub overflow_add-words : goal.overflow_add-words
overflow_add-words c =
    omega (arith, c.requires, c.words_of-words.ensures, words_left c.args.types.now c.loop-of_type.of_type-index c.loop-of_type.words c.of_type-item.result c.loop-of_type-test.true c.of_type-item.is c.loop-of_type.invariant)
