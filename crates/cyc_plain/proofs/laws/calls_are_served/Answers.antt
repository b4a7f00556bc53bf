-- The proof of the law about requests that the store (heap of regions) does not refuse: each is served, or the run ends if the store
-- lacks memory.
use Rattle.cyc_plain.proofs.Steps.{step_serves, step_full}
use Rattle.cyc_plain.proofs.laws.calls_are_served.Goals as goal

pub returns-clause-served : goal.returns-clause-served
returns-clause-served c = λ program pages calls c' request new at free within stepped. step_serves program pages calls c' request new at stepped free within

pub returns-clause-full : goal.returns-clause-full
returns-clause-full c = λ program pages calls c' request new at full stepped. step_full program pages calls c' request new at stepped full
