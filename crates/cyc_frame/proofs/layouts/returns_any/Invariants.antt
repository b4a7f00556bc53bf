use Rattle.std.proofs.Common.{◌≡◌, drop}
use Rattle.cyc_frame.specs.inside.Layout.{returns_any}
use Rattle.cyc_frame.proofs.layouts.returns_any.Given as goal

-- Loop invariant: no instruction visited so far is a return.
abbrev pub invariant-loop-instruction : goal.invariant-loop-instruction
invariant-loop-instruction l = returns_any (drop l.instruction-index l.code) ≡ returns_any l.code
