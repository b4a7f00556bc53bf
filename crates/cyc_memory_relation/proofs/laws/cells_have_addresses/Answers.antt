-- Addresses of cells.
use Rattle.cyc_memory_relation.proofs.Pointers.{one_address, not-null}
use Rattle.cyc_memory_relation.proofs.laws.cells_have_addresses.Goals as goal

pub returns-clause-one : goal.returns-clause-one
returns-clause-one c = λ t object offset word other p q. one_address p q

pub returns-clause-some : goal.returns-clause-some
returns-clause-some c = λ t object offset word p. not-null p
