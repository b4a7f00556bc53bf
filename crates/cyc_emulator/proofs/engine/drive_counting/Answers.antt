use Rattle.std.proofs.Common.{◌≡◌, ◌∙◌, [], false, true, refl, arith}
use Rattle.std.proofs.lemmas.Result.{err_from_is_err_and}
use Rattle.cyc_words.proofs.DeviceLemmas.{Appends-nil, Consumes-nil, Keeps-refl}
use Rattle.cyc_machine.specs.Held.{state_of}
use Rattle.cyc_store.specs.Ledger.{held_of}
use Rattle.cyc_emulator.proofs.Engines.{Progress-turn, fails_turn, spends, stops_at}
use Rattle.cyc_emulator.proofs.engine.drive_counting.Goals as goal

pub returns-in_err-end-clause-runs : goal.returns-in_err-end-clause-runs
returns-in_err-end-clause-runs g c =
    let p = err_from_is_err_and c.from_residual.result c.from_residual.ensures.1 in
    rw (p.1, p.2) (fails_turn false _ _ _ _ _ _ _ c.step_on.new.exchanged _ _ (state_of held_of c.step_on.new.machine) _ c.loop-count.invariant.progress c.loop-count-test.true c.in_err-end.ensures.turned)

pub returns-in-Some-clause-runs : goal.returns-in-Some-clause-runs
returns-in-Some-clause-runs g c =
    rw (c.report_of.ensures, c.higher-peaks.ensures) (stops_at _ _ _ _ _ c.args.budget _ c.step_on.new.exchanged _ _ (state_of held_of c.step_on.new.machine) _ c.loop-count.invariant.progress (omega arith) (rw c.in-Some.is at c.in_ok-end.ensures.turned))

pub loop-count-preserved : goal.loop-count-preserved
loop-count-preserved g c = record {
  progress = rw c.higher-peaks.ensures (Progress-turn _ _ _ _ _ _ _ _ _ _ c.loop-count.invariant.progress (rw c.in_default.is at c.in_ok-end.ensures.turned));
  reader = c.in_ok-end.ensures.reader ∙ c.loop-count.invariant.reader;
  writer = c.in_ok-end.ensures.writer ∙ c.loop-count.invariant.writer;
  past_end = λ goes_on.
      let before = c.loop-count.invariant.past_end goes_on in
      let following = c.in_ok-end.ensures.past_end before.0 in
      (following.0, following.1 ∙ before.1);
  few = omega arith;
  fits = omega (arith, c.loop-count.invariant.fits, c.in_ok-end.ensures.few);
}

pub returns-clause-runs : goal.returns-clause-runs
returns-clause-runs g c = rw c.report_of-2.ensures (spends _ _ _ _ c.args.budget _ _ _ c.loop-count.invariant.progress (omega arith))

pub loop-count-init : goal.loop-count-init
loop-count-init g c =
    let reported = g.R.ByteIn.remaining c.args.reader.now in
    let written = g.W.ByteOut.written c.args.writer.now in record {
      progress = record {
        read = [];
        output = [];
        consumed = Consumes-nil reported reported (Keeps-refl reported);
        printed = Appends-nil written written (Keeps-refl written);
        reads = refl;
        writes = refl;
        at_end = λ ended. absurd (let never : false ≡ true = ended in cc);
        running = c.requires;
        runs = λ rest ends. (refl, (refl, c.uses_at-peaks.ensures));
      };
      reader = refl;
      writer = refl;
      past_end = λ goes_on. ((λ e. goes_on), refl);
      few = omega arith;
      fits = (omega arith, omega arith);
    }

pub returns-in-Some-clause-past_end : goal.returns-in-Some-clause-past_end
returns-in-Some-clause-past_end g c = λ goes_on.
    let before = c.loop-count.invariant.past_end goes_on in
    (c.in_ok-end.ensures.past_end before.0).1 ∙ before.1
