-- Uncaught exceptions.
use Rattle.cyc_meaning.proofs.Nested.{uncaught_ends}
use Rattle.cyc_meaning.proofs.laws.uncaught_ends.Goals as goal

pub returns : goal.returns
returns c = uncaught_ends
