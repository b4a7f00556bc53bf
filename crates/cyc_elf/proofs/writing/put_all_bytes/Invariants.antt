use Rattle.std.proofs.Common.{◌≡◌, ◌++◌, map, take}
use Rattle.std.specs.List.{flat_map}
use Rattle.cyc_elf.specs.Image.{segment_contents}
use Rattle.cyc_elf.specs.Layout.{stored}
use Rattle.cyc_elf.proofs.writing.put_all_bytes.Given as goal

abbrev pub invariant-loop-s : goal.invariant-loop-s
invariant-loop-s l = l.out.items ≡ l.initial.out.items ++ flat_map stored (map segment_contents (take l.s-index l.segments))
