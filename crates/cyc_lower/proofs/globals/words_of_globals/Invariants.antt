use Rattle.cyc_lower_proof.proofs.slots.GlobalWords.{WordsLeft}
use Rattle.cyc_lower.proofs.globals.words_of_globals.Given as goal

abbrev pub invariant-loop-global : goal.invariant-loop-global
invariant-loop-global l = WordsLeft l.globals l.global-index l.words.items
