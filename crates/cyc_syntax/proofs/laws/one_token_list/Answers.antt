use Rattle.cyc_syntax.proofs.CutLemmas.{one_token_list}
use Rattle.cyc_syntax.proofs.laws.one_token_list.Goals as goal

pub returns : goal.returns
returns c = one_token_list
