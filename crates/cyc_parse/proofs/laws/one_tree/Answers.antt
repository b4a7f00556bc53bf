use Rattle.cyc_parse.proofs.OneTree.{one_tree}
use Rattle.cyc_parse.proofs.laws.one_tree.Goals as goal

pub returns : goal.returns
returns c = one_tree
