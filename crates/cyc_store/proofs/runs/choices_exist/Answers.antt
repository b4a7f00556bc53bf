use Rattle.std.proofs.Common.{sym, subst}
use Rattle.cyc_store.specs.Ordered.{IsOrdered}
use Rattle.cyc_store.proofs.Choices as choices
use Rattle.cyc_store.proofs.runs.choices_exist.Goals as goal

pub returns-clause-begins : goal.returns-clause-begins
returns-clause-begins c = λ pages s. λ (memory, words, is) some few. subst IsOrdered (sym is) (choices.start-ordered pages memory words some few)

pub returns-clause-chooses : goal.returns-clause-chooses
returns-clause-chooses c = λ s call ordered free. choices.has-choice s ordered call free

pub returns-clause-writes : goal.returns-clause-writes
returns-clause-writes c = λ s address word ordered is. choices.saved-ordered s address word ordered is

pub returns-clause-answers : goal.returns-clause-answers
returns-clause-answers c = λ calls s ordered. choices.answers calls s ordered
