-- The proof of the law that a run stays within its limits of pages and calls.
use Rattle.cyc_plain.specs.inside.Step.{step, limit_at}
use Rattle.cyc_plain.proofs.RunLaws.{starts_within, stays_within, limited-within, limited-full}
use Rattle.cyc_plain.proofs.laws.limits_are_kept.Goals as goal

pub returns-clause-starts : goal.returns-clause-starts
returns-clause-starts c = starts_within

pub returns-clause-stays : goal.returns-clause-stays
returns-clause-stays c = stays_within

pub returns-clause-within : goal.returns-clause-within
returns-clause-within c = λ program pages calls choice old within. limited-within pages (limit_at program old calls) old (step program choice old) within

pub returns-clause-full : goal.returns-clause-full
returns-clause-full c = λ program pages calls choice old within. limited-full pages (limit_at program old calls) old (step program choice old) within
