use Rattle.cyc_types.proofs.WeightLemmas.{else_written}
use Rattle.cyc_types.proofs.laws.an_else_weighs_its_statement.Goals as goal

pub returns : goal.returns
returns c = else_written
