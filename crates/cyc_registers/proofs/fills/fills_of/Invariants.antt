use Rattle.cyc_registers.specs.inside.FillPlaces.{AreLeft}
use Rattle.cyc_registers.proofs.fills.fills_of.Given as goal

-- Invariant: a code position is still marked as one that fills delay slots, unless a branch to it among those examined so far has
-- excluded it.
abbrev pub invariant-loop-index : goal.invariant-loop-index
invariant-loop-index l =
    AreLeft l.holders l.lives.live.items l.homes l.function.code.items l.index l.fills.items
