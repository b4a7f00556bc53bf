-- Leaving several regions.
use Rattle.cyc_memory_relation.proofs.Closing.{related-unclosed, closed-following, closed-at_once}
use Rattle.cyc_memory_relation.proofs.Scopes.{ends-newest, scopes-counted}
use Rattle.cyc_memory_relation.proofs.laws.regions_close_at_once.Goals as goal

pub returns-clause-begins : goal.returns-clause-begins
returns-clause-begins c = λ t w s related. related-unclosed related

pub returns-clause-following : goal.returns-clause-following
returns-clause-following c = λ t w s mark number r related count there scope newest. closed-following s mark number r related count there scope newest

pub returns-clause-at_once : goal.returns-clause-at_once
returns-clause-at_once c = λ t w s mark choice sound related none allowed. closed-at_once mark choice sound related none allowed

pub returns-clause-counted : goal.returns-clause-counted
returns-clause-counted c = scopes-counted

pub returns-clause-newest : goal.returns-clause-newest
returns-clause-newest c = λ number stack e w nested. (ends-newest number stack e w nested).newest
