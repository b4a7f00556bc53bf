use Rattle.cyc_types.proofs.typing.ProgramLemmas.{program_well}
use Rattle.cyc_types.proofs.laws.typed_trees_are_well_typed.Goals as goal

pub returns : goal.returns
returns c = program_well
