use Rattle.std.proofs.Common.{◌≡◌, drop}
use Rattle.cyc_propagation.specs.inside.Replacement.{simplified_operand}
use Rattle.cyc_propagation.proofs.replacement.operand_in.Given as goal

-- Loop invariant: no fact visited so far offers an equal operand as a replacement.
abbrev pub invariant-loop-fact : goal.invariant-loop-fact
invariant-loop-fact l =
    simplified_operand (drop l.fact-index l.facts) l.operand ≡ simplified_operand l.facts l.operand
