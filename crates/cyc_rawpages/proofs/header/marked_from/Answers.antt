use Rattle.std.proofs.Common.{sym, ap, ◌∙◌}
use Rattle.std.specs.Prelude.{◌==◌}
use Rattle.cyc_rawpages.proofs.Masks.{mask_of, mask-fits, mask-inside, mask-outside, set-in, set-out, cleared-in, cleared-out}
use Rattle.cyc_rawpages.proofs.header.marked_from.Goals as goal

pub overflow_sub-mask : goal.overflow_sub-mask
overflow_sub-mask c = mask-fits c.args.first c.args.count c.requires

pub returns-then-value-clause-inside : goal.returns-then-value-clause-inside
returns-then-value-clause-inside c = λ i from to.
    let first = c.args.first in let count = c.args.count in ap (λ b. b == 1) (set-in c.args.word (mask_of first count) i (mask-inside first count c.requires i from to)) ∙ sym c.if-value.true

pub returns-then-value-clause-outside : goal.returns-then-value-clause-outside
returns-then-value-clause-outside c = λ i out.
    let first = c.args.first in let count = c.args.count in set-out c.args.word (mask_of first count) i (mask-outside first count c.requires i out)

pub returns-else-value-clause-inside : goal.returns-else-value-clause-inside
returns-else-value-clause-inside c = λ i from to.
    let first = c.args.first in let count = c.args.count in ap (λ b. b == 1) (cleared-in c.args.word (mask_of first count) i (mask-inside first count c.requires i from to)) ∙ sym c.if-value.false

pub returns-else-value-clause-outside : goal.returns-else-value-clause-outside
returns-else-value-clause-outside c = λ i out.
    let first = c.args.first in let count = c.args.count in cleared-out c.args.word (mask_of first count) i (mask-outside first count c.requires i out)
