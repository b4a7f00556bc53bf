use Rattle.std.proofs.Common.{◌≡◌, take}
use Rattle.cyc_calls.specs.inside.Passing.{all_with_kinds}
use Rattle.cyc_calls.proofs.passing.set_all_kinds.Given as goal

abbrev pub invariant-loop-i : goal.invariant-loop-i
invariant-loop-i l =
    l.values.items ≡ all_with_kinds l.fn.values.items (take l.i l.types)
