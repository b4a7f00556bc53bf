use Rattle.std.proofs.Common.{◌≡◌, ◌++◌, take}
use Rattle.cyc_elf.specs.Layout.{words}
use Rattle.cyc_elf.proofs.writing.put_words.Given as goal

abbrev pub invariant-loop-number : goal.invariant-loop-number
invariant-loop-number l = l.out.items ≡ l.initial.out.items ++ words (take l.number-index l.numbers)
