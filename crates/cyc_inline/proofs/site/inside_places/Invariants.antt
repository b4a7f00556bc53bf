use Rattle.std.proofs.Common.{◌≡◌, ◌+◌, ◌<◌, ◌^◌, ◌++◌, true, false, drop}
use Rattle.cyc_inline.specs.inside.Sites.{inside_size, inside_places}
use Rattle.cyc_inline.proofs.site.inside_places.Given as goal

-- Invariant: the code positions computed so far, followed by the positions of the remaining instructions, are the complete table.
abbrev pub invariant-loop-index : goal.invariant-loop-index
invariant-loop-index l = record {
  value : l.places.items ++ inside_places l.results l.line l.index l.here l.there (drop l.index l.code) ≡ inside_places l.results l.line 0 l.first l.site.rest l.code;
  room : l.here + inside_size l.results l.line true l.index (drop l.index l.code) < 2 ^ 64;
  rest : l.there + inside_size l.results l.line false l.index (drop l.index l.code) < 2 ^ 64;
}
