use Rattle.std.proofs.Common.{◌≡◌, false, take}
use Rattle.cyc_syntax.proofs.PieceLemmas.{has_close}
use Rattle.cyc_lex.proofs.CommentLemmas.{ends_in_star}
use Rattle.cyc_lex.proofs.runs.closed_len.Given as goal

abbrev pub invariant-loop-i : goal.invariant-loop-i
invariant-loop-i l = record {
  after_star : l.after_star ≡ ends_in_star (take l.i l.text);
  no_close : has_close (take l.i l.text) ≡ false;
}
