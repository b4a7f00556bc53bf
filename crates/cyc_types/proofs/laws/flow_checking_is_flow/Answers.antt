use Rattle.cyc_types.specs.flow.Programs.{rule_program}
use Rattle.cyc_types.proofs.RuleLaws.{derived, refused, answers_tree, answers_fault}
use Rattle.cyc_types.proofs.laws.flow_checking_is_flow.Goals as goal

pub returns-clause-kept : goal.returns-clause-kept
returns-clause-kept c = λ program. (answers_tree (rule_program program) tt, derived (rule_program program) tt)

pub returns-clause-refused : goal.returns-clause-refused
returns-clause-refused c = λ program f. (answers_fault (rule_program program) f, refused (rule_program program) f)
