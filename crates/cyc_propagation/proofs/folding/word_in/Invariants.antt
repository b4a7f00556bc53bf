use Rattle.std.proofs.Common.{◌≡◌, drop}
use Rattle.cyc_propagation.specs.inside.Replacement.{word_in}
use Rattle.cyc_propagation.proofs.folding.word_in.Given as goal

-- Loop invariant: no fact visited so far states the operand's word.
abbrev pub invariant-loop-fact : goal.invariant-loop-fact
invariant-loop-fact l = word_in (drop l.fact-index l.facts) l.operand ≡ word_in l.facts l.operand
