use Rattle.cyc_types.proofs.typing.FormedPrograms.{program_formed}
use Rattle.cyc_types.proofs.laws.typed_trees_are_formed.Goals as goal

pub returns : goal.returns
returns c = program_formed
