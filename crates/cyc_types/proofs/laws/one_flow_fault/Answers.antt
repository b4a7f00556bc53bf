use Rattle.cyc_types.specs.flow.Programs.{rule_program}
use Rattle.cyc_types.proofs.RuleLaws.{is_decided}
use Rattle.cyc_types.proofs.laws.one_flow_fault.Goals as goal

pub returns : goal.returns
returns c = λ program f g. (is_decided (rule_program program)).same f g
