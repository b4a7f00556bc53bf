-- Freeing unique objects.
use Rattle.cyc_memory_relation.proofs.Services.{refusal-free, freed-unique}
use Rattle.cyc_memory_relation.proofs.laws.unique_objects_are_freed.Goals as goal

pub returns-clause-knows : goal.returns-clause-knows
returns-clause-knows c = λ t w s number address x ks related there owner row. refusal-free related number address x ks there owner row

pub returns-clause-freed : goal.returns-clause-freed
returns-clause-freed c = λ t w s number address x ks choice related there owner row allowed. freed-unique related number address x ks there owner row choice allowed
