-- Proves the law that a step makes at most one change to the heap state (regions, objects, output, input).
use Rattle.cyc_meaning.proofs.RunLaws.{step_changes}
use Rattle.cyc_meaning.proofs.laws.one_change_at_most.Goals as goal

pub returns : goal.returns
returns c = step_changes
