-- Proves the law that the step is a function of the state.
use Rattle.std.proofs.Common.{◌∙◌, sym}
use Rattle.cyc_meaning.specs.Run.{start}
use Rattle.cyc_meaning.proofs.RunLaws.{steps-add, steps-last}
use Rattle.cyc_meaning.proofs.laws.run_is_a_function.Goals as goal

pub returns-clause-one : goal.returns-clause-one
returns-clause-one c = λ program input count s t is also. is ∙ sym also

pub returns-clause-goes_on : goal.returns-clause-goes_on
returns-clause-goes_on c = λ program input m n. steps-add program m n (start program input)

pub returns-clause-next : goal.returns-clause-next
returns-clause-next c = λ program input count. steps-last program count (start program input)
