use Rattle.cyc_compiler.proofs.Amounts.{accepted_of_text}
use Rattle.cyc_compiler.proofs.laws.accepted_programs_are_of_texts.Goals as goal

pub returns : goal.returns
returns c = accepted_of_text
