use Rattle.std.proofs.Common.{◌+◌, ◌≤◌, List, ℕ, ◌++◌, take}
use Rattle.cyc_syntax.specs.inside.Place.{IsAfter}
use Rattle.cyc_syntax.proofs.place.place_after.Given as goal

abbrev pub invariant-loop-b : goal.invariant-loop-b
invariant-loop-b l = record {
  line : l.line ≤ l.fn.place.line + l.b-index;
  column : l.column ≤ l.fn.place.column + l.b-index;
  following : (front : List ℕ) → IsAfter l.fn.place front → IsAfter (record { line = l.line; column = l.column }) (front ++ take l.b-index l.bytes);
}
