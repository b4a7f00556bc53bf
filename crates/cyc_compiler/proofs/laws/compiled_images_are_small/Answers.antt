use Rattle.std.proofs.Common.{arith}
use Rattle.cyc_compiler.proofs.Amounts.{accepted_weight}
use Rattle.cyc_compiler.proofs.laws.compiled_images_are_small.Goals as goal

pub returns : goal.returns
returns c = λ text p file a is. omega (arith, is.few, accepted_weight text p a)
