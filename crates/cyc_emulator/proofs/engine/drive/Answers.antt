use Rattle.std.proofs.Common.{◌∙◌, arith, subst, Option}
use Rattle.std.proofs.lemmas.Result.{err_from_is_err_and}
use Rattle.cyc_machine.specs.Between.{FailsAt}
use Rattle.cyc_machine.specs.Held.{state_of}
use Rattle.cyc_machine.specs.declared.exchanged.Device.{Device}
use Rattle.cyc_machine.proofs.Between.{ahead_few}
use Rattle.cyc_emulator.proofs.Engines.{Progress-ahead, Progress-turn, fails_ahead, fails_turn, spends, stops_at}
use Rattle.cyc_emulator.proofs.engine.drive.Goals as goal

pub returns-in-Some-clause-runs : goal.returns-in-Some-clause-runs
returns-in-Some-clause-runs g c =
    let p = Progress-ahead _ _ _ _ _ _ _ _ c.loop-count.invariant.progress c.fast-ahead.ensures.runs in
    rw c.fault_of.ensures (fails_ahead g.S.Store.GROWS _ _ _ _ c.args.budget _ _ c.in-Some.device p (omega (arith, c.loop-count-test.true, c.fast-ahead.ensures.most)) (subst (λ (failed : Option Device). FailsAt failed (state_of g.S.Store.held c.fast-ahead.new.self)) c.in-Some.is c.fast-ahead.ensures.fails))

pub turn-requires : goal.turn-requires
turn-requires g c =
    let few = ahead_few _ _ _ _ _ c.fast-ahead.ensures.runs in record {
      few = (
        omega (arith, c.loop-count-test.true, c.fast-ahead.ensures.most, c.loop-count.invariant.fits, few.read),
        omega (arith, c.loop-count-test.true, c.fast-ahead.ensures.most, c.loop-count.invariant.fits, few.written),
      );
    }

pub returns-in_err-end-clause-runs : goal.returns-in_err-end-clause-runs
returns-in_err-end-clause-runs g c =
    let p = err_from_is_err_and c.from_residual.result c.from_residual.ensures.1 in
    let done = Progress-ahead _ _ _ _ _ _ _ _ c.loop-count.invariant.progress c.fast-ahead.ensures.runs in
    rw (p.1, p.2) (fails_turn g.S.Store.GROWS _ _ _ _ _ _ _ c.turn.new.exchanged _ _ (state_of g.S.Store.held c.turn.new.machine) _ done (omega (arith, c.loop-count-test.true, c.fast-ahead.ensures.most)) c.in_err-end.ensures.turned)

pub returns-in-Some-2-clause-runs : goal.returns-in-Some-2-clause-runs
returns-in-Some-2-clause-runs g c =
    let done = Progress-ahead _ _ _ _ _ _ _ _ c.loop-count.invariant.progress c.fast-ahead.ensures.runs in
    rw c.report_of.ensures (stops_at _ _ _ _ _ c.args.budget _ c.turn.new.exchanged _ _ (state_of g.S.Store.held c.turn.new.machine) _ done (omega (arith, c.loop-count-test.true, c.fast-ahead.ensures.most)) (rw c.in-Some-2.is at c.in_ok-end.ensures.turned))

pub loop-count-preserved : goal.loop-count-preserved
loop-count-preserved g c =
    let few = ahead_few _ _ _ _ _ c.fast-ahead.ensures.runs in
    let done = Progress-ahead _ _ _ _ _ _ _ _ c.loop-count.invariant.progress c.fast-ahead.ensures.runs in record {
      progress = Progress-turn _ _ _ _ _ _ _ _ _ _ done (rw c.in_default-2.is at c.in_ok-end.ensures.turned);
      reader = c.in_ok-end.ensures.reader ∙ (rw c.in_default.is at c.fast-ahead.ensures.reader ∙ c.loop-count.invariant.reader);
      writer = c.in_ok-end.ensures.writer ∙ (rw c.in_default.is at c.fast-ahead.ensures.writer ∙ c.loop-count.invariant.writer);
      past_end = λ goes_on.
          let before = c.loop-count.invariant.past_end goes_on in
          let mid = c.fast-ahead.ensures.past_end before.0 in
          let following = c.in_ok-end.ensures.past_end mid.0 in
          (following.0, following.1 ∙ (mid.1 ∙ before.1));
      few = omega (arith, c.loop-count-test.true, c.fast-ahead.ensures.most);
      fits = omega (arith, c.loop-count.invariant.fits, c.in_ok-end.ensures.few, few.read, few.written);
    }

pub returns-clause-runs : goal.returns-clause-runs
returns-clause-runs g c = rw c.report_of-2.ensures (spends _ _ _ _ c.args.budget _ _ _ c.loop-count.invariant.progress (omega arith))
