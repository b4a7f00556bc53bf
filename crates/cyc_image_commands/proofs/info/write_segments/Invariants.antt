-- Invariant: the text lines about the segments visited so far are written.
use Rattle.std.proofs.Common.{map, take, flat_map}
use Rattle.std.specs.Fmt.{HasWritten, IsPlainFormatter}
use Rattle.cyc_image_commands.specs.inside.Info.{extent_in, segment_line}
use Rattle.cyc_image_commands.proofs.info.write_segments.Given as goal

abbrev pub invariant-loop-segment : goal.invariant-loop-segment
invariant-loop-segment g l = IsPlainFormatter l.initial.f
    → HasWritten g.W.Write.write_str_gives l.initial.f (flat_map segment_line (map extent_in (take l.segment-index l.fn.segments))) l.f
