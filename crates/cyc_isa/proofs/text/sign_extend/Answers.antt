use Rattle.std.proofs.Common.{arith}
use Rattle.cyc_words.proofs.WordLemmas.{sign_extended_low, sign_extended_high}
use Rattle.cyc_isa.proofs.text.sign_extend.Goals as goal

pub returns-then-half-lt32768 : goal.returns-then-half-lt32768
returns-then-half-lt32768 c = rw (sign_extended_low c.args.half (omega arith)) (omega arith)

pub returns-else-half-lt32768 : goal.returns-else-half-lt32768
returns-else-half-lt32768 c = rw (sign_extended_high c.args.half (omega arith) (omega arith)) (omega arith)
