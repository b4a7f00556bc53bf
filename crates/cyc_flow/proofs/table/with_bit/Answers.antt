use Rattle.std.proofs.Common.{sym, ap, ◌∙◌}
use Rattle.std.specs.Prelude.{◌==◌}
use Rattle.std.proofs.lemmas.Nat.Bits.{bit_at_set_same, bit_at_set_other, bit_at_clear_same, bit_at_clear_other}
use mir.Syntax.{w64}
use Rattle.cyc_flow.proofs.table.with_bit.Goals as goal

pub returns-then-value-clause-same : goal.returns-then-value-clause-same
returns-then-value-clause-same c = ap (λ b. b == 1) (bit_at_set_same w64 c.args.word c.args.place c.requires) ∙ sym c.if-value.true

pub returns-then-value-clause-other : goal.returns-then-value-clause-other
returns-then-value-clause-other c = λ i lt ne. bit_at_set_other w64 c.args.word c.args.place c.requires i ne

pub returns-else-value-clause-same : goal.returns-else-value-clause-same
returns-else-value-clause-same c = ap (λ b. b == 1) (bit_at_clear_same w64 c.args.word c.args.place c.requires) ∙ sym c.if-value.false

pub returns-else-value-clause-other : goal.returns-else-value-clause-other
returns-else-value-clause-other c = λ i lt ne. bit_at_clear_other w64 c.args.word c.args.place c.requires i lt ne
