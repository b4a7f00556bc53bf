use Rattle.cyc_sizes.proofs.NeedsFound.{WordsLeft}
use Rattle.cyc_sizes.proofs.frames.words_of_all.Given as goal

abbrev pub invariant-loop-of_type : goal.invariant-loop-of_type
invariant-loop-of_type l = WordsLeft l.types l.of_type-index l.words
