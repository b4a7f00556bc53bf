use Rattle.std.proofs.Common.{◌≡◌, ◌-◌, map, take, length}
use Rattle.cyc_syntax.specs.Tokens.{spelling_of}
use Rattle.cyc_format.proofs.comparison.are_spelled_alike.Given as goal

-- Loop invariant: the tokens visited so far have equal spellings in both texts.
abbrev pub invariant-loop-i : goal.invariant-loop-i
invariant-loop-i l = map (spelling_of l.text) (take l.i l.tokens) ≡ map (spelling_of l.other) (take l.i l.others)

abbrev pub decreases-loop-i : goal.decreases-loop-i
decreases-loop-i l = length l.tokens - l.i
