use Rattle.std.proofs.Common.{◌≡◌}
use Rattle.cyc_asm.specs.inside.Order.{arranged_before}
use Rattle.cyc_asm.proofs.origin.numbers_in_order.Given as goal

-- Loop invariant: the indices that the lines visited so far have in the labelled code are in their final order.
abbrev pub invariant-loop-number-2 : goal.invariant-loop-number-2
invariant-loop-number-2 l = l.order.items ≡ arranged_before l.lines l.number
