use Rattle.std.proofs.Common.{length}
use Rattle.cyc_frame.specs.inside.Layout.{AreFirstFrames, AreRaised}
use Rattle.cyc_frame.proofs.layouts.raise.Given as goal

-- Loop invariant: each function visited so far that opens an exception handler saves at least `most` registers.
abbrev pub invariant-loop-number : goal.invariant-loop-number
invariant-loop-number l =
    AreFirstFrames l.plain (length l.plain.functions) l.most l.frames.items × AreRaised l.plain l.number l.most l.frames.items
