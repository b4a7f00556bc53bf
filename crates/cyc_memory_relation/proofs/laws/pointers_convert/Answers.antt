-- Conversions of pointers.
use Rattle.cyc_memory_relation.proofs.Pointers.{thin-to_thin, thin-to_fat, thinned}
use Rattle.cyc_memory_relation.proofs.laws.pointers_convert.Goals as goal

pub returns-clause-thin : goal.returns-clause-thin
returns-clause-thin c = thin-to_thin

pub returns-clause-fat : goal.returns-clause-fat
returns-clause-fat c = thin-to_fat

pub returns-clause-thinned : goal.returns-clause-thinned
returns-clause-thinned c = λ t object start count word index part below. thinned index part below
