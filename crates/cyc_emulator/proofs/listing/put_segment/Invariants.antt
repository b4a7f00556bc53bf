use Rattle.std.proofs.Common.{◌≡◌}
use Rattle.std.specs.List.{flat_map, range_with_len}
use Rattle.std.specs.Io.KnownBytes.{Appends}
use Rattle.cyc_elf.specs.Outline.{fields_of}
use Rattle.cyc_elf.specs.Reading.{segment_of}
use Rattle.cyc_emulator.proofs.Listings.{segment_line}
use Rattle.cyc_emulator.proofs.listing.put_segment.Given as goal

abbrev pub invariant-loop-number : goal.invariant-loop-number
invariant-loop-number g l = record {
  written : Appends (g.W.ByteOut.written l.fn.out) (g.W.ByteOut.written l.out) (flat_map (segment_line (segment_of l.file (fields_of l.header))) (range_with_len 0 l.number));
  works : g.W.ByteOut.failed l.out ≡ g.W.ByteOut.failed l.fn.out;
}
