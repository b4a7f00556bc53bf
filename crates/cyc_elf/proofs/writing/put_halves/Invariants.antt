use Rattle.std.proofs.Common.{◌≡◌, ◌++◌, take}
use Rattle.cyc_elf.specs.Layout.{halves}
use Rattle.cyc_elf.proofs.writing.put_halves.Given as goal

abbrev pub invariant-loop-number : goal.invariant-loop-number
invariant-loop-number l = l.out.items ≡ l.initial.out.items ++ halves (take l.number-index l.numbers)
