use Rattle.std.proofs.Common.{◌∙◌, sym, subst, take}
use Rattle.std.proofs.lemmas.Bool.{and_left, and_right, ne_eqb}
use Rattle.std.proofs.lemmas.List.{take_all}
use Rattle.cyc_syntax.specs.Spelling.{HasNoClose}
use Rattle.cyc_syntax.proofs.PieceLemmas.{HasNoClose-from_has_close}
use Rattle.cyc_lex.proofs.CommentLemmas.{ClosesAt, closes_at, first_close, not_yet, star_more}
use Rattle.cyc_lex.proofs.runs.closed_len.Goals as goal
use Rattle.cyc_lex.proofs.runs.closed_len.Goals.{Then-b-eq47, else-after_star-via-then-after_star+else-b-eq47, else-after_star-via-else-after_star}

-- The slash at this index closes the comment.
closes : (c : Then-b-eq47) → ClosesAt c.args.text.now c.loop-i.i
closes c = closes_at c.args.text.now c.loop-i.i c.loop-i-test.true (sym c.loop-i.invariant.after_star ∙ c.if-after_star.true) c.if-b-eq47.true

pub returns-then-b-eq47-clause-closed : goal.returns-then-b-eq47-clause-closed
returns-then-b-eq47-clause-closed c = (closes c).close

pub returns-then-b-eq47-clause-first : goal.returns-then-b-eq47-clause-first
returns-then-b-eq47-clause-first c = first_close c.args.text.now c.loop-i.i (closes c) c.loop-i.invariant.no_close

pub loop-i-preserved : goal.loop-i-preserved
loop-i-preserved c =
    let text = c.args.text.now in
    let i = c.loop-i.i in
    record {
      after_star = star_more text i c.loop-i-test.true;
      no_close = not_yet text i c.loop-i-test.true c.loop-i.invariant.no_close
          (elim c.else-after_star.branch [
            | else-after_star-via-then-after_star+else-b-eq47 w ↦ and_right _ _ (ne_eqb _ 47 w.if-b-eq47.false)
            | else-after_star-via-else-after_star w ↦ and_left _ _ (sym c.loop-i.invariant.after_star ∙ w.if-after_star.false)
          ]);
    }

pub returns-clause-open : goal.returns-clause-open
returns-clause-open c =
    subst HasNoClose (take_all c.loop-i.i c.args.text.now c.loop-i-test.false)
    (HasNoClose-from_has_close (take c.loop-i.i c.args.text.now) c.loop-i.invariant.no_close)
