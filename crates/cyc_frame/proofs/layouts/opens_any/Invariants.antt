use Rattle.std.proofs.Common.{◌≡◌, drop}
use Rattle.cyc_frame.specs.inside.Layout.{opens_any}
use Rattle.cyc_frame.proofs.layouts.opens_any.Given as goal

-- Loop invariant: no instruction visited so far opens an exception handler.
abbrev pub invariant-loop-instruction : goal.invariant-loop-instruction
invariant-loop-instruction l = opens_any (drop l.instruction-index l.code) ≡ opens_any l.code
