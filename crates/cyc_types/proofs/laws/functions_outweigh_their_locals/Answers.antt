use Rattle.cyc_types.proofs.typing.WeightLemmas.{function_outweighs}
use Rattle.cyc_types.proofs.laws.functions_outweigh_their_locals.Goals as goal

pub returns : goal.returns
returns c = function_outweighs
