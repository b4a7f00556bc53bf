-- The start state.
use Rattle.cyc_memory_relation.proofs.Start.{start-related}
use Rattle.cyc_memory_relation.proofs.laws.starts_related.Goals as goal

pub returns : goal.returns
returns c = λ program globals input pages memory are. start-related program globals are input pages memory
