use Rattle.std.proofs.Common.{◌≡◌, map, drop}
use Rattle.cyc_elf.specs.Outline.{fields_of}
use Rattle.cyc_elf.specs.inside.Parts.{in_order}
use Rattle.cyc_elf.proofs.table.in_order.Given as goal

abbrev pub invariant-loop-h : goal.invariant-loop-h
invariant-loop-h l = in_order l.high (map fields_of (drop l.h-index l.sorted)) ≡ in_order 0 (map fields_of l.sorted)
