use Rattle.std.proofs.Common.{◌≡◌, ◌<◌, ℕ, true}
use Rattle.cyc_plain.specs.inside.Program.{routine_at}
use Rattle.cyc_frame.specs.inside.Layout.{returns_any}
use Rattle.cyc_frame.proofs.layouts.all_return.Given as goal

-- Loop invariant: each function visited so far contains a return.
abbrev pub invariant-loop-number : goal.invariant-loop-number
invariant-loop-number l = (k : ℕ) → k < l.number → returns_any (routine_at l.plain k).code ≡ true
