-- This file proves the law about opening and closing regions.
use Rattle.cyc_memory_relation.proofs.Services.{opened-lexical, opened-dynamic, refusal-close, closed-dynamic}
use Rattle.cyc_memory_relation.proofs.laws.regions_open_and_close.Goals as goal

pub returns-clause-lexical : goal.returns-clause-lexical
returns-clause-lexical c = λ t w s choice related none allowed. opened-lexical related choice none allowed

pub returns-clause-dynamic : goal.returns-clause-dynamic
returns-clause-dynamic c = λ t w s choice related none allowed. opened-dynamic related choice none allowed

pub returns-clause-knows : goal.returns-clause-knows
returns-clause-knows c = λ t w s number handle r related there kept dynamic entry. refusal-close related number handle r there kept dynamic entry

pub returns-clause-closed : goal.returns-clause-closed
returns-clause-closed c = λ t w s number handle r choice related there kept dynamic entry allowed.
    closed-dynamic related number handle r choice there kept dynamic entry allowed
