use Rattle.cyc_types.proofs.WeightLemmas.{declarations_counted, function_of_program}
use Rattle.cyc_types.proofs.laws.programs_outweigh_their_parts.Goals as goal

pub returns-clause-function : goal.returns-clause-function
returns-clause-function c = function_of_program

pub returns-clause-declarations : goal.returns-clause-declarations
returns-clause-declarations c = declarations_counted
