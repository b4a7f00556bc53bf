use Rattle.std.proofs.Common.{◌≡◌}
use Rattle.cyc_asm.specs.inside.Words.{words_before}
use Rattle.cyc_asm.proofs.emission.words_of_all.Given as goal

-- Loop invariant: the words of the lines visited so far are emitted.
abbrev pub invariant-loop-number : goal.invariant-loop-number
invariant-loop-number l = l.words.items ≡ words_before l.lines l.number
