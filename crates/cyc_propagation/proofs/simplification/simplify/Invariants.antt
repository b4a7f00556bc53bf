use Rattle.std.proofs.Common.{map}
use Rattle.cyc_plain.specs.inside.Program.{routine_of}
use Rattle.cyc_propagation.specs.inside.Room.{AreMadeFirst}
use Rattle.cyc_propagation.proofs.simplification.simplify.Given as goal

-- Loop invariant: the functions visited so far are simplified.
abbrev pub invariant-loop-number : goal.invariant-loop-number
invariant-loop-number l =
    AreMadeFirst l.plain l.number (map routine_of l.functions.items)
