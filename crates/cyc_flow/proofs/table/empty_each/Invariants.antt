use Rattle.std.proofs.Common.{◌≡◌, length}
use Rattle.cyc_flow.specs.inside.Numbers.{with_words}
use Rattle.cyc_flow.specs.inside.Tables.{emptied_marks}
use Rattle.cyc_flow.proofs.Sets.{Changed}
use Rattle.cyc_flow.proofs.table.empty_each.Given as goal

abbrev pub invariant-loop-i : goal.invariant-loop-i
invariant-loop-i l = (length l.marks.items ≡ length l.fn.marks.items) × Changed emptied_marks l.marks.items l.words l.i (with_words emptied_marks l.fn.marks.items l.words)
