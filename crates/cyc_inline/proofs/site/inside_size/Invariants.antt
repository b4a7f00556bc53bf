use Rattle.std.proofs.Common.{◌≡◌, ◌+◌, ◌*◌, ◌≤◌, drop}
use Rattle.cyc_inline.specs.inside.Sites.{inside_size}
use Rattle.cyc_inline.proofs.site.inside_size.Given as goal

-- Invariant: the size computed so far plus the size of the remaining instructions is the total size.
abbrev pub invariant-loop-index : goal.invariant-loop-index
invariant-loop-index l = record {
  value : l.size + inside_size l.results l.line l.in_line l.index (drop l.index l.code) ≡ inside_size l.results l.line l.in_line 0 l.code;
  few : l.size ≤ l.index * 4;
}
