use Rattle.std.proofs.Common.{◌≡◌, ◌+◌, ◌*◌, ◌≤◌, ◌++◌, drop}
use Rattle.cyc_inline.specs.declared.limits.TheConstants.{MOST_GROWTH}
use Rattle.cyc_inline.specs.inside.Emission.{front_by, opened_places, opened_end}
use Rattle.cyc_inline.proofs.caller.opened_places.Given as goal

-- Invariant: the code positions computed so far, followed by the positions of the remaining instructions, are the complete table.
abbrev pub invariant-loop-index : goal.invariant-loop-index
invariant-loop-index l = record {
  value : l.places.items ++ opened_places l.plain l.choice.chosen.items (front_by l.plain l.number l.choice) l.in_line l.index l.here (drop l.index l.function.code.items)
      ≡ opened_places l.plain l.choice.chosen.items (front_by l.plain l.number l.choice) l.in_line 0 l.first l.function.code.items;
  end : opened_end l.plain l.choice.chosen.items (front_by l.plain l.number l.choice) l.in_line l.index l.here (drop l.index l.function.code.items)
      ≡ opened_end l.plain l.choice.chosen.items (front_by l.plain l.number l.choice) l.in_line 0 l.first l.function.code.items;
  room : l.here ≤ l.first + l.index * (2 * MOST_GROWTH);
}
