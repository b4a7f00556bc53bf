use Rattle.std.proofs.Common.{◌-◌, length}
use Rattle.cyc_lex.proofs.LexLemmas.{IsReadUpTo}
use Rattle.cyc_lex.proofs.lexer.read_tokens.Given as goal

-- Invariant of the loop: the text before the index `start` has been divided into tokens, spaces and comments.
abbrev pub invariant-loop-start : goal.invariant-loop-start
invariant-loop-start l = IsReadUpTo l.text l.tokens.items l.start l.place

abbrev pub decreases-loop-start : goal.decreases-loop-start
decreases-loop-start l = length l.text - l.start
