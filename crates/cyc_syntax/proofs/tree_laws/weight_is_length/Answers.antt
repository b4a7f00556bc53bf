use Rattle.cyc_syntax.proofs.WeightLemmas.{tree_weight-length}
use Rattle.cyc_syntax.proofs.tree_laws.weight_is_length.Goals as goal

pub returns : goal.returns
returns c = tree_weight-length
