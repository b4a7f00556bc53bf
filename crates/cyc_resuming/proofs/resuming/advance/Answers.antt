use Rattle.std.proofs.Common.{◌∙◌, ap, arith, refl}
use Rattle.std.specs.Prelude.{◌||◌}
use Rattle.cyc_machine.specs.Held.{state_of}
use Rattle.cyc_resuming.specs.Resuming.{is_no_byte, is_no_room}
use Rattle.cyc_resuming.proofs.Resumings.{device_fails_by, goes_ahead, goes_turn, starts, stops}
use Rattle.cyc_resuming.proofs.resuming.advance.Goals as goal

pub loop-count-init : goal.loop-count-init
loop-count-init g c = record {
  going = λ goes at stood. starts at (state_of g.S.Store.held c.args.machine.now) c.args.stands.now _ c.args.exchanged.now goes stood c.requires.fresh.0 c.requires.fresh.1;
  reader = refl;
  writer = refl;
  past_end = λ goes_on. (goes_on, refl);
  few = omega arith;
  fits = omega (arith, c.requires.fresh);
}

pub returns-in-Some-clause-advances : goal.returns-in-Some-clause-advances
returns-in-Some-clause-advances g c = λ goes at stood.
    let before = c.loop-count.invariant.going goes at stood in
    let ahead = c.run_ahead-ahead.ensures.ahead before.here before.stood in
    device_fails_by g.S.Store.GROWS _ at c.args.budget _ c.loop-count.count c.run_ahead-ahead.result.count c.in-Some.device c.pause_of.result _ _ _ _ _ _ before
    (omega (arith, c.loop-count-test.true, c.run_ahead-ahead.ensures.most)) (c.run_ahead-ahead.ensures.goes before.going) c.pause_of.ensures (rw c.in-Some.is at ahead)

pub loop-count-preserved : goal.loop-count-preserved
loop-count-preserved g c = record {
  going = λ goes at stood.
      let before = c.loop-count.invariant.going goes at stood in
      let ahead = goes_ahead at _ _ _ _ _ _ _ _ _ _ _ before (c.run_ahead-ahead.ensures.goes before.going) (c.run_ahead-ahead.ensures.ahead before.here before.stood) in
      goes_turn at _ _ _ _ _ _ _ _ _ _ _ ahead (c.in-None.ensures.turned ahead.here ahead.stood);
  reader = c.in-None.ensures.reader ∙ (rw c.in_default.is at c.run_ahead-ahead.ensures.reader ∙ c.loop-count.invariant.reader);
  writer = c.in-None.ensures.writer ∙ (rw c.in_default.is at c.run_ahead-ahead.ensures.writer ∙ c.loop-count.invariant.writer);
  past_end = λ goes_on.
      let before = c.loop-count.invariant.past_end goes_on in
      let mid = c.run_ahead-ahead.ensures.past_end before.0 in
      let following = c.in-None.ensures.past_end mid.0 in
      (following.0, following.1 ∙ (mid.1 ∙ before.1));
  few = omega (arith, c.loop-count-test.true, c.run_ahead-ahead.ensures.most);
  fits = omega (arith, c.loop-count.invariant.fits, c.in-None.ensures.few, c.run_ahead-ahead.ensures.few);
}

pub returns-in-Some-turn : goal.returns-in-Some-turn
returns-in-Some-turn g c = record {
  advances = λ goes at stood.
      let before = c.loop-count.invariant.going goes at stood in
      let ahead = goes_ahead at _ _ _ _ _ _ _ _ _ _ _ before (c.run_ahead-ahead.ensures.goes before.going) (c.run_ahead-ahead.ensures.ahead before.here before.stood) in
      rw c.last_of.ensures (stops g.S.Store.GROWS _ at c.args.budget _ _ _ _ _ _ c.in-Some-turn.pause _ _ _ _ ahead (omega (arith, c.loop-count-test.true, c.run_ahead-ahead.ensures.most)) (c.in-Some-turn.ensures.turned ahead.here ahead.stood));
  reader = c.in-Some-turn.ensures.reader ∙ ap (λ b. is_no_byte c.in-Some-turn.pause || b) (rw c.in_default.is at c.run_ahead-ahead.ensures.reader ∙ c.loop-count.invariant.reader);
  writer = c.in-Some-turn.ensures.writer ∙ ap (λ b. is_no_room c.in-Some-turn.pause || b) (rw c.in_default.is at c.run_ahead-ahead.ensures.writer ∙ c.loop-count.invariant.writer);
  past_end = λ goes_on.
      let before = c.loop-count.invariant.past_end goes_on in
      let mid = c.run_ahead-ahead.ensures.past_end before.0 in
      let following = c.in-Some-turn.ensures.past_end mid.0 in
      (following.0, following.1 ∙ (mid.1 ∙ before.1));
}
