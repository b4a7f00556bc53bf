-- Proves the law that the regions of blocks and lexical regions nest, that is, are closed in the reverse order of their opening.
use Rattle.cyc_meaning.proofs.Nested.{nests_run, only_accesses_die}
use Rattle.cyc_meaning.proofs.laws.regions_nest.Goals as goal

pub returns-clause-nest : goal.returns-clause-nest
returns-clause-nest c = nests_run

pub returns-clause-dies : goal.returns-clause-dies
returns-clause-dies c = only_accesses_die
