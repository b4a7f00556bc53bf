use Rattle.std.proofs.Common.{◌≡◌, take}
use Rattle.std.specs.Prelude.{map}
use Rattle.std.specs.List.{flat_map}
use Rattle.std.specs.Io.KnownBytes.{Appends}
use Rattle.cyc_elf.specs.Outline.{fields_of}
use Rattle.cyc_elf.specs.Reading.{segment_of}
use Rattle.cyc_emulator.specs.Listing.{listed_lines}
use Rattle.cyc_emulator.proofs.listing.put_all_listed.Given as goal

abbrev pub invariant-loop-number : goal.invariant-loop-number
invariant-loop-number g l = record {
  written : Appends (g.W.ByteOut.written l.fn.out) (g.W.ByteOut.written l.out) (flat_map listed_lines (take l.number (map (segment_of l.file) (map fields_of l.loads))));
  works : g.W.ByteOut.failed l.out ≡ g.W.ByteOut.failed l.fn.out;
}
