use Rattle.std.proofs.Common.{◌≡◌, ◌+◌, ◌-◌, ◌*◌, None, map}
use Rattle.cyc_elf.specs.Header.{headers_from}
use Rattle.cyc_elf.specs.Outline.{fields_of}
use Rattle.cyc_elf.specs.inside.Parts.{walk}
use Rattle.cyc_elf.proofs.Walks.{with_front}
use Rattle.cyc_elf.proofs.table.walk_table.Given as goal

abbrev pub invariant-loop : goal.invariant-loop
invariant-loop l =
    (l.place ≡ l.table + 32 * l.counter)
    × (with_front (map fields_of l.loads.items) (walk l.file l.note (headers_from l.file l.place (l.count - l.counter))) ≡ walk l.file None (headers_from l.file l.table l.count))
