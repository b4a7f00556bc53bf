-- The law about the registers that an instruction writes is proved by an imported lemma.
use Rattle.cyc_isa.proofs.UseLemmas.{set_alone}
use Rattle.cyc_isa.proofs.laws.registers_are_set_alone.Goals as goal

pub returns-clause-alone : goal.returns-clause-alone
returns-clause-alone c = set_alone
