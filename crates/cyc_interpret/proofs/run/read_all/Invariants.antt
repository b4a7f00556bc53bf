use Rattle.std.specs.Io.KnownBytes.{Consumes}
use Rattle.cyc_interpret.proofs.run.read_all.Given as goal

abbrev pub invariant-loop : goal.invariant-loop
invariant-loop g l = Consumes (g.R.ByteIn.remaining l.fn.reader) (g.R.ByteIn.remaining l.reader) l.input.items
