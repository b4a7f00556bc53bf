-- The proof of the law that output grows and input is consumed from its front.
use Rattle.cyc_plain.proofs.RunLaws.{output_grows, input_shrinks}
use Rattle.cyc_plain.proofs.laws.output_grows.Goals as goal

pub returns-clause-output : goal.returns-clause-output
returns-clause-output c = output_grows

pub returns-clause-input : goal.returns-clause-input
returns-clause-input c = input_shrinks
