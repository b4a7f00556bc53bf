use Rattle.cyc_propagation.proofs.About.{fact_left, fact_right}
use Rattle.cyc_propagation.proofs.facts.with_slots.Goals as goal

pub returns-clause-more : goal.returns-clause-more
returns-clause-more c other is = fact_left c.args.slots c.slots_of.result other is

pub returns-clause-has : goal.returns-clause-has
returns-clause-has c = fact_right c.args.slots c.slots_of.result c.args.fact.now c.slots_of.ensures
