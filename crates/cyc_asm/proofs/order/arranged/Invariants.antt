use Rattle.std.proofs.Common.{◌≡◌}
use Rattle.cyc_asm.specs.inside.Order.{arranged_before}
use Rattle.cyc_asm.proofs.order.arranged.Given as goal

-- Loop invariant: the lines visited so far are in their final order.
abbrev pub invariant-loop-number : goal.invariant-loop-number
invariant-loop-number l = l.arranged.items ≡ arranged_before l.lines l.number
