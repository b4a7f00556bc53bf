use Rattle.std.proofs.Common.{◌≡◌, map, drop}
use Rattle.cyc_elf.specs.Image.{segment_contents}
use Rattle.cyc_elf.specs.Layout.{bytes_end}
use Rattle.cyc_elf.proofs.Writes.{IsAt, headers_left}
use Rattle.cyc_elf.proofs.writing.put_headers.Given as goal

abbrev pub invariant-loop-s : goal.invariant-loop-s
invariant-loop-s l =
    IsAt l.out.items l.initial.out.items (headers_left l.offset l.s-index l.segments) (headers_left l.start 0 l.segments)
    × (bytes_end l.offset (map segment_contents (drop l.s-index l.segments)) ≡ bytes_end l.start (map segment_contents l.segments))
