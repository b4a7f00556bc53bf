use Rattle.cyc_types.specs.typing.Programs.{rule_program}
use Rattle.cyc_types.proofs.RuleLaws.{is_decided}
use Rattle.cyc_types.proofs.laws.one_typed_tree.Goals as goal

pub returns : goal.returns
returns c = λ texts tree p q. (is_decided (rule_program texts tree)).one p q
