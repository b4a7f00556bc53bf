use Rattle.cyc_lex.proofs.NumberLemmas.{too_large}
use Rattle.cyc_lex.proofs.runs.number_value.Goals as goal

pub returns-then-value-gt-MAX_NUMBER : goal.returns-then-value-gt-MAX_NUMBER
returns-then-value-gt-MAX_NUMBER c =
    too_large c.args.base c.args.digits.now c.loop-digit.digit-index _ c.requires.positive c.loop-digit-test.true
    (rw (← c.loop-digit.invariant.so_far, ← c.digit_value.ensures.value) c.if-value-gt-MAX_NUMBER.true)
