use Rattle.std.proofs.Common.{subst, ◌++◌, get_or, take, arith}
use Rattle.std.proofs.lemmas.Bool.{ne_eqb}
use Rattle.std.proofs.lemmas.List.{take_all}
use Rattle.cyc_words.specs.declared.span.Span.{Span}
use Rattle.cyc_words.proofs.Lists.{append_take_next}
use Rattle.cyc_syntax.specs.inside.Place.{IsAfter}
use Rattle.cyc_syntax.proofs.PlaceLemmas.{after_line_feed, after_other}
use Rattle.cyc_syntax.proofs.place.place_after.Goals as goal
use Rattle.cyc_syntax.proofs.place.place_after.Goals.{then-b-eq10, else-b-eq10}

pub loop-b-preserved : goal.loop-b-preserved
loop-b-preserved c =
    let bytes = c.args.bytes.now in
    let i = c.loop-b.b-index in
    let b = get_or bytes i 0 in
    let old : Span = record { line = c.loop-b.line; column = c.loop-b.column } in
    let new : Span = record { line = c.if-b-eq10.line; column = c.if-b-eq10.column } in
    elim c.if-b-eq10.branch [
      | then-b-eq10 w ↦ record {
        line = omega arith;
        column = omega arith;
        following = λ front before.
            subst (IsAfter new) (append_take_next front bytes i c.loop-b-test.true)
            (after_line_feed old new (front ++ take i bytes) b w.if-b-eq10.true w.line-is w.column-is (c.loop-b.invariant.following front before));
      }
      | else-b-eq10 w ↦ record {
        line = omega arith;
        column = omega arith;
        following = λ front before.
            subst (IsAfter new) (append_take_next front bytes i c.loop-b-test.true)
            (after_other old new (front ++ take i bytes) b (ne_eqb b 10 w.if-b-eq10.false) w.line-is w.column-is (c.loop-b.invariant.following front before));
      }
    ]

pub returns : goal.returns
returns c = λ front before.
    let all = take_all c.loop-b.b-index c.args.bytes.now c.loop-b-test.false in
    subst (λ l. IsAfter (record { line = c.loop-b.line; column = c.loop-b.column }) (front ++ l)) all (c.loop-b.invariant.following front before)
