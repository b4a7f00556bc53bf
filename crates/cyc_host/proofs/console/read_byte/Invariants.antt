-- The interrupted reads before this one returned no bytes.
use Rattle.std.specs.Io.KnownBytes.{Keeps}
use Rattle.cyc_host.proofs.console.read_byte.Given as goal

abbrev pub invariant-loop : goal.invariant-loop
invariant-loop g l = Keeps (g.R.Read.remaining l.fn.input) (g.R.Read.remaining l.input)
