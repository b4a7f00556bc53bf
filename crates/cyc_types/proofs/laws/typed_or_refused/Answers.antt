use Rattle.cyc_types.specs.typing.Programs.{rule_program}
use Rattle.cyc_types.proofs.RuleLaws.{is_decided}
use Rattle.cyc_types.proofs.laws.typed_or_refused.Goals as goal

pub returns : goal.returns
returns c = λ texts tree p f. (is_decided (rule_program texts tree)).never_refused p f
