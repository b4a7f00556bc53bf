use Rattle.cyc_types.specs.flow.Programs.{rule_program}
use Rattle.cyc_types.proofs.RuleLaws.{is_decided}
use Rattle.cyc_types.proofs.laws.allowed_or_stopped.Goals as goal

pub returns : goal.returns
returns c = λ program f. (is_decided (rule_program program)).never_refused tt f
