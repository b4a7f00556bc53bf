use Rattle.std.proofs.Common.{◌+◌, ◌*◌, set, sym, ap, subst, ◌∙◌, arith}
use Rattle.std.specs.Prelude.{slice_index}
use Rattle.std.specs.Int.{bit_at}
use Rattle.cyc_rawpages.specs.inside.Words.{headed}
use Rattle.cyc_rawpages.specs.inside.Pool.{PoolState, bits_at, state_of, IsPool}
use Rattle.cyc_rawpages.proofs.Columns.{marked}
use Rattle.cyc_rawpages.proofs.PoolLemmas.{there-in, kept}
use Rattle.cyc_rawpages.proofs.pool.Pool.set_bit.Goals as goal

pub invariant_of-self : goal.invariant_of-self
invariant_of-self c =
    let s = c.self.inside in let low = c.requires.1 in let there = there-in _ _ _ c.self.view_is c.requires.0 in let w = c.marked-marks.result in
    subst (λ b. IsPool s.pages b s.first s.roll.lists) (sym (c.set_head.ensures ∙ ap (λ k. headed s.block k w) c.bits_at-at.ensures))
    (kept s.pages s.block s.first s.roll.lists c.self.invariant (bits_at (1024 * c.args.page.number + c.args.bit)) w (λ p. ((λ e. omega (arith, e, low, there)), (λ e. omega (arith, e, low, there)))))

pub returns : goal.returns
returns c =
    let s = c.self.inside in let p = c.args.page.number in let b = c.args.bit in let w = c.marked-marks.result in let v = c.args.value in
    let old = c.head.ensures ∙ ap (slice_index s.block.heads) c.bits_at-at.ensures in
    ap (λ block. state_of s.pages block s.roll.lists) (c.set_head.ensures ∙ ap (λ k. headed s.block k w) c.bits_at-at.ensures)
    ∙ marked s.pages s.block s.roll.lists c.self.invariant.whole p b w v (there-in _ _ _ c.self.view_is c.requires.0) c.requires.1 c.marked-marks.ensures.same
    (λ i lt ne. c.marked-marks.ensures.other i lt ne ∙ ap (λ x. bit_at x i) old)
    ∙ ap (λ (t : PoolState). record t { bits = set t.bits (1024 * p + b) v }) c.self.view_is
