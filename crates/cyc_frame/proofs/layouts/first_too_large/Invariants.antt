use Rattle.std.proofs.Common.{◌≡◌, map, drop}
use Rattle.cyc_plain.specs.inside.Program.{routine_of}
use Rattle.cyc_frame.specs.inside.Layout.{first_too_large}
use Rattle.cyc_frame.proofs.layouts.first_too_large.Given as goal

-- Loop invariant: no function visited so far has a frame that is too large.
abbrev pub invariant-loop-function : goal.invariant-loop-function
invariant-loop-function l =
    first_too_large (map routine_of (drop l.function-index l.functions)) ≡ first_too_large (map routine_of l.functions)
