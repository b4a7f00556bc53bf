use Rattle.std.proofs.Common.{◌≡◌, length}
use Rattle.std.specs.Prelude.{bit_or}
use Rattle.cyc_flow.specs.inside.Numbers.{with_words}
use Rattle.cyc_flow.proofs.Sets.{Changed}
use Rattle.cyc_flow.proofs.touched.either_each.Given as goal

abbrev pub invariant-loop-i : goal.invariant-loop-i
invariant-loop-i l = (length l.one.items ≡ length l.fn.one.items) × Changed bit_or l.one.items l.other l.i (with_words bit_or l.fn.one.items l.other)
