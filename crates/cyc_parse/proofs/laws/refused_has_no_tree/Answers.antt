use Rattle.cyc_parse.proofs.Refused.{refused_has_none}
use Rattle.cyc_parse.proofs.laws.refused_has_no_tree.Goals as goal

pub returns : goal.returns
returns c = refused_has_none
