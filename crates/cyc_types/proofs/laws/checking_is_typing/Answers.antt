use Rattle.cyc_types.specs.typing.Programs.{rule_program}
use Rattle.cyc_types.proofs.RuleLaws.{derived, refused, answers_tree, answers_fault}
use Rattle.cyc_types.proofs.laws.checking_is_typing.Goals as goal

pub returns-clause-typed : goal.returns-clause-typed
returns-clause-typed c = λ texts tree p. (answers_tree (rule_program texts tree) p, derived (rule_program texts tree) p)

pub returns-clause-refused : goal.returns-clause-refused
returns-clause-refused c = λ texts tree f. (answers_fault (rule_program texts tree) f, refused (rule_program texts tree) f)
