-- The words of a value still represent it when the tables of objects and regions grow. Equal words that begin at another index
-- also represent the value.
use Rattle.cyc_memory_relation.proofs.Values.{Is-grows, Is-same}
use Rattle.cyc_memory_relation.proofs.laws.words_stay_values.Goals as goal

pub returns-clause-grows : goal.returns-clause-grows
returns-clause-grows c = λ t u kind v words place grows is. Is-grows grows kind v words place is

pub returns-clause-same : goal.returns-clause-same
returns-clause-same c = Is-same
