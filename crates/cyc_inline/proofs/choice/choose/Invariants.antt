use Rattle.std.proofs.Common.{◌≡◌, ◌≤◌, length}
use Rattle.cyc_plain.specs.inside.Program.{routine_at}
use Rattle.cyc_inline.specs.declared.limits.TheConstants.{MOST_GROWTH}
use Rattle.cyc_inline.specs.inside.Emission.{AreChosen}
use Rattle.cyc_inline.proofs.choice.choose.Given as goal

-- Invariant: the calls chosen so far may be inlined.
abbrev pub invariant-loop-index : goal.invariant-loop-index
invariant-loop-index l = record {
  chosen : AreChosen l.plain (routine_at l.plain l.number) l.choice.chosen.items l.choice.slots;
  as_many : length l.choice.chosen.items ≡ l.index;
  growth : l.choice.growth ≤ MOST_GROWTH;
}
