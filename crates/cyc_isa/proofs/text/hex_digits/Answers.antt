use Rattle.std.proofs.Common.{rules}
use Rattle.cyc_isa.specs.Text.{hex_digits_of}
use Rattle.cyc_isa.proofs.text.hex_digits.Goals as goal

pub returns : goal.returns
unfolding hex_digits_of
returns c = search rules
