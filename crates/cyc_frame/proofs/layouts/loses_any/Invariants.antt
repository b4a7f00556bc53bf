use Rattle.std.proofs.Common.{◌≡◌, drop}
use Rattle.cyc_frame.specs.inside.Layout.{loses_any}
use Rattle.cyc_frame.proofs.layouts.loses_any.Given as goal

-- Loop invariant: no instruction visited so far overwrites the return address register.
abbrev pub invariant-loop-instruction : goal.invariant-loop-instruction
invariant-loop-instruction l = loses_any (drop l.instruction-index l.code) ≡ loses_any l.code
