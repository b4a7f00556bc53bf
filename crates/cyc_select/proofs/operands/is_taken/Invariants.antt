use Rattle.std.proofs.Common.{◌≡◌}
use Rattle.cyc_select.specs.inside.Slots.{coming}
use Rattle.cyc_select.specs.inside.Passing.{is_taken}
use Rattle.cyc_select.proofs.operands.is_taken.Given as goal

-- Loop invariant: `taken` says that one of the parameters visited so far is passed in the register `register`.
abbrev pub invariant-loop-parameter : goal.invariant-loop-parameter
invariant-loop-parameter l = l.taken ≡ is_taken (coming l.callee) l.parameter l.register
