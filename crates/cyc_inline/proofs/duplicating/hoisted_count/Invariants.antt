use Rattle.std.proofs.Common.{◌≡◌, ◌≤◌, length, take}
use Rattle.std.specs.Prelude.{filter}
use Rattle.cyc_inline.specs.inside.Emission.{may_hoisted}
use Rattle.cyc_inline.proofs.duplicating.hoisted_count.Given as goal

-- Invariant: the count says how many of the instructions requested for hoisting and visited so far may indeed be hoisted.
abbrev pub invariant-loop-hoisted : goal.invariant-loop-hoisted
invariant-loop-hoisted l = record {
  value : l.count ≡ length (filter (may_hoisted l.globals l.given_slots l.slots) (take l.hoisted-index l.wanted));
  few : l.count ≤ l.hoisted-index;
}
