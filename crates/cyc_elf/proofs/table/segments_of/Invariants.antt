use Rattle.std.proofs.Common.{◌≡◌, map, take}
use Rattle.cyc_elf.specs.Image.{segment_contents}
use Rattle.cyc_elf.specs.Outline.{fields_of}
use Rattle.cyc_elf.specs.Reading.{segment_of}
use Rattle.cyc_elf.proofs.table.segments_of.Given as goal

abbrev pub invariant-loop-header : goal.invariant-loop-header
invariant-loop-header l = map segment_contents l.segments.items ≡ map (segment_of l.file) (map fields_of (take l.header-index l.loads))
