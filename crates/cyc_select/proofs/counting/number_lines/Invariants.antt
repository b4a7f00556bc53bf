use Rattle.std.proofs.Common.{◌≡◌}
use Rattle.cyc_plain.specs.inside.WellFormed.{IsPlain}
use Rattle.cyc_select.specs.inside.Counts.{function_line}
use Rattle.cyc_select.specs.inside.Emission.{AreNumbered}
use Rattle.cyc_select.proofs.counting.number_lines.Given as goal

-- Loop invariant: each function visited so far has its table of line numbers, and `here` is the first line of the next function.
abbrev pub invariant-loop-function : goal.invariant-loop-function
invariant-loop-function l = AreNumbered l.plain l.frames l.function l.functions.items × (l.here ≡ function_line l.plain l.frames l.function)
