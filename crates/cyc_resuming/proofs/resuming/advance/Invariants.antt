use Rattle.std.proofs.Common.{◌≡◌, ◌-◌, ◌≤◌}
use Rattle.cyc_machine_model.specs.declared.phase.Phase.TheVariants.{Running}
use Rattle.cyc_machine_model.specs.State.{State}
use Rattle.cyc_machine.specs.Between.{AsksNotPast}
use Rattle.cyc_machine.specs.Held.{state_of}
use Rattle.cyc_resuming.specs.Resuming.{StandsAs, phase_at}
use Rattle.cyc_resuming.proofs.Resumings.{Going}
use Rattle.cyc_resuming.proofs.resuming.advance.Given as goal

abbrev pub invariant-loop-count : goal.invariant-loop-count
invariant-loop-count g l = record {
  going : phase_at l.fn.stands ≡ Running → (at : State) → StandsAs l.fn.stands (state_of g.S.Store.held l.fn.machine) at × (at.phase ≡ phase_at l.fn.stands)
      → Going at l.fn.exchanged.ended
      (record { remaining = g.R.ByteIn.remaining l.fn.reader; written = g.W.ByteOut.written l.fn.writer })
      (record { remaining = g.R.ByteIn.remaining l.reader; written = g.W.ByteOut.written l.writer })
      l.count l.exchanged l.stands (state_of g.S.Store.held l.machine);
  reader : g.R.ByteIn.failed l.reader ≡ g.R.ByteIn.failed l.fn.reader;
  writer : g.W.ByteOut.failed l.writer ≡ g.W.ByteOut.failed l.fn.writer;
  past_end : AsksNotPast l.fn.exchanged l.exchanged (g.R.ByteIn.ended l.fn.reader) (g.R.ByteIn.ended l.reader)
      (g.R.ByteIn.asked_past_end l.fn.reader) (g.R.ByteIn.asked_past_end l.reader);
  few : l.count ≤ l.budget;
  fits : (l.exchanged.read ≤ l.count) × (l.exchanged.written ≤ l.count);
}

abbrev pub decreases-loop-count : goal.decreases-loop-count
decreases-loop-count g l = l.budget - l.count
