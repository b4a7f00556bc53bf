use Rattle.std.proofs.Common.{◌≤◌}
use Rattle.cyc_frame.specs.inside.Layout.{AreFirstFrames}
use Rattle.cyc_frame.proofs.layouts.frames_of.Given as goal

-- Loop invariant: the functions visited so far have correct frames that save at most `most` registers.
abbrev pub invariant-loop-number : goal.invariant-loop-number
invariant-loop-number l = AreFirstFrames l.plain l.number l.most l.frames.items × (l.most ≤ l.may_save)
