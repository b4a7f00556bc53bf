-- Cycles of calls.
use Rattle.cyc_bound.proofs.WalkLemmas.{no_bound}
use Rattle.cyc_bound.proofs.laws.cycles_have_no_bound.Goals as goal

pub returns : goal.returns
returns c = λ program functions bound is most. no_bound program functions bound is most
