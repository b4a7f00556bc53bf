use Rattle.std.proofs.Common.{◌≡◌, ◌-◌, ◌≤◌, [], false, None}
use Rattle.cyc_machine.specs.Held.{state_of}
use Rattle.cyc_emulator.proofs.Engines.{Progress}
use Rattle.cyc_emulator.proofs.engine.drive.Given as goal

abbrev pub invariant-loop-count : goal.invariant-loop-count
invariant-loop-count g l = record {
  progress : Progress (λ input. record { machine = state_of g.S.Store.held l.fn.machine; output = []; input = input })
      (record { remaining = g.R.ByteIn.remaining l.fn.reader; written = g.W.ByteOut.written l.fn.writer })
      (record { remaining = g.R.ByteIn.remaining l.reader; written = g.W.ByteOut.written l.writer })
      l.count l.exchanged None (state_of g.S.Store.held l.machine);
  reader : g.R.ByteIn.failed l.reader ≡ g.R.ByteIn.failed l.fn.reader;
  writer : g.W.ByteOut.failed l.writer ≡ g.W.ByteOut.failed l.fn.writer;
  past_end : g.R.ByteIn.ended l.fn.reader ≡ false
      → (l.exchanged.ended ≡ false → g.R.ByteIn.ended l.reader ≡ false) × (g.R.ByteIn.asked_past_end l.reader ≡ g.R.ByteIn.asked_past_end l.fn.reader);
  few : l.count ≤ l.budget;
  fits : (l.exchanged.read ≤ l.count) × (l.exchanged.written ≤ l.count);
}

abbrev pub decreases-loop-count : goal.decreases-loop-count
decreases-loop-count g l = l.budget - l.count
