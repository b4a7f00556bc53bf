use Rattle.std.proofs.Common.{◌≡◌, ◌++◌, length, replicate, take}
use Rattle.std.specs.Prelude.{filter}
use Rattle.cyc_inline.specs.inside.Emission.{may_hoisted}
use Rattle.cyc_inline.proofs.emission.Emission.push_all_hoisted.Given as goal

-- Invariant: of the instructions requested for hoisting and visited so far, those that may be hoisted are emitted.
abbrev pub invariant-loop-hoisted : goal.invariant-loop-hoisted
invariant-loop-hoisted l = record {
  code : l.self.code.items ≡ l.fn.self.code.items ++ filter (may_hoisted l.globals l.given_slots l.slots) (take l.hoisted-index l.wanted);
  origins : l.self.origins.items ≡ l.fn.self.origins.items ++ replicate (length (filter (may_hoisted l.globals l.given_slots l.slots) (take l.hoisted-index l.wanted))) l.origin;
}
