-- Proves the law on the observable effects of a step, that is, on printed and read bytes.
use Rattle.cyc_meaning.proofs.RunLaws.{step_prints, step_reads, run_bytes}
use Rattle.cyc_meaning.proofs.laws.only_services_are_seen.Goals as goal

pub returns-clause-prints : goal.returns-clause-prints
returns-clause-prints c = step_prints

pub returns-clause-reads : goal.returns-clause-reads
returns-clause-reads c = step_reads

pub returns-clause-bytes : goal.returns-clause-bytes
returns-clause-bytes c = run_bytes
