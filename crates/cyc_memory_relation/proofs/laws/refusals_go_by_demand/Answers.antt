-- Refusals of allocations.
use Rattle.cyc_memory_relation.proofs.Making.{refusal-allocate, refusal-unique}
use Rattle.cyc_memory_relation.proofs.Services.{refusal-lexical, refusal-dynamic}
use Rattle.cyc_memory_relation.proofs.laws.refusals_go_by_demand.Goals as goal

pub returns-clause-region : goal.returns-clause-region
returns-clause-region c = λ t w s number handle r cells related there kept entry sized. refusal-allocate related number handle r cells there kept entry sized

pub returns-clause-unique : goal.returns-clause-unique
returns-clause-unique c = λ t w s cells related sized. refusal-unique related cells sized

pub returns-clause-lexical : goal.returns-clause-lexical
returns-clause-lexical c = λ t w s related. refusal-lexical related

pub returns-clause-dynamic : goal.returns-clause-dynamic
returns-clause-dynamic c = λ t w s related. refusal-dynamic related
