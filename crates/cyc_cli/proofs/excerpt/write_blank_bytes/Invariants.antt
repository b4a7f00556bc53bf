-- Invariant of the loop: the bytes before the loop's index are written to the output.
use Rattle.std.proofs.Common.{take, flat_map}
use Rattle.std.specs.Fmt.{HasWritten, IsPlainFormatter}
use Rattle.cyc_cli.specs.inside.Excerpt.{blank_byte}
use Rattle.cyc_cli.proofs.excerpt.write_blank_bytes.Given as goal

abbrev pub invariant-loop-byte : goal.invariant-loop-byte
invariant-loop-byte g l = IsPlainFormatter l.initial.f
    → HasWritten g.W.Write.write_str_gives l.initial.f (flat_map blank_byte (take l.byte-index l.fn.bytes)) l.f
