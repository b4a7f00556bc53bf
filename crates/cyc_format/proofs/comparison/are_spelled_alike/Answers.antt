use Rattle.std.proofs.Common.{arith}
use Rattle.std.proofs.lemmas.Bool.Decides.{Decides-eqb}
use Rattle.std.proofs.lemmas.Slice.Eq.{slice_eq-Decides}
use Rattle.cyc_format.proofs.SameTokens.{one_token_more}
use Rattle.cyc_format.proofs.comparison.are_spelled_alike.Goals as goal

pub loop-i-preserved : goal.loop-i-preserved
loop-i-preserved c =
    one_token_more c.args.text.now c.args.other.now c.args.tokens.now c.args.others.now c.loop-i.i _ _ c.loop-i-test.true
    (omega (arith, c.loop-i-test.true, c.if-tokens-others.false)) c.loop-i.invariant
    ((slice_eq-Decides Decides-eqb _ _ _ c.eq.ensures).0 c.if-eq.true)
