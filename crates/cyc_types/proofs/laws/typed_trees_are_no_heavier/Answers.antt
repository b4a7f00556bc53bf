use Rattle.cyc_types.proofs.typing.WeightLemmas.{program_lighter}
use Rattle.cyc_types.proofs.laws.typed_trees_are_no_heavier.Goals as goal

pub returns : goal.returns
returns c = program_lighter
