-- The proof of the law that a program without `Enter` has the same steps as on the machine whose limit of calls never changes.
use Rattle.cyc_plain.proofs.Uniform.{of_uniform, to_uniform}
use Rattle.cyc_plain.proofs.laws.room_is_not_asked.Goals as goal

pub returns-clause-uniform : goal.returns-clause-uniform
returns-clause-uniform c = λ program pages calls old new none stepped. to_uniform program none pages calls old new stepped

pub returns-clause-own : goal.returns-clause-own
returns-clause-own c = λ program pages calls old new none stepped. of_uniform program none pages calls old new stepped
