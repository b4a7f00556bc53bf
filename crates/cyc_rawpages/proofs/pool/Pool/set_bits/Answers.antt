use Rattle.std.proofs.Common.{ℕ, ◌+◌, ◌*◌, false, length, sym, ap, subst, ◌∙◌, arith, inl, inr}
use Rattle.std.specs.Prelude.{slice_index, slice_index_or}
use Rattle.std.specs.Int.{bit_at}
use Rattle.cyc_rawpages.specs.inside.Words.{headed}
use Rattle.cyc_rawpages.specs.inside.Pool.{PoolState, bits_at, bit_of, between, tabulate, state_of, IsPool}
use Rattle.cyc_rawpages.proofs.Columns.{rewritten, length-tab}
use Rattle.cyc_rawpages.proofs.BitRuns.{run-is}
use Rattle.cyc_rawpages.proofs.PoolLemmas.{there-in, kept}
use Rattle.cyc_rawpages.proofs.pool.Pool.set_bits.Goals as goal

pub invariant_of-self : goal.invariant_of-self
invariant_of-self c =
    let s = c.self.inside in let low = c.requires.there.1 in let there = there-in _ _ _ c.self.view_is c.requires.there.0 in let w = c.marked_from-marks.result in
    subst (λ b. IsPool s.pages b s.first s.roll.lists) (sym (c.set_head.ensures ∙ ap (λ k. headed s.block k w) c.bits_at-at.ensures))
    (kept s.pages s.block s.first s.roll.lists c.self.invariant (bits_at (1024 * c.args.page.number + c.args.bit)) w (λ p. ((λ e. omega (arith, e, low, there)), (λ e. omega (arith, e, low, there)))))

pub returns-clause-same : goal.returns-clause-same
returns-clause-same c =
    let s = c.self.inside in let low = c.requires.there.1 in let there = there-in _ _ _ c.self.view_is c.requires.there.0 in let w = c.marked_from-marks.result in
    let k = bits_at (1024 * c.args.page.number + c.args.bit) in let written = c.set_head.ensures ∙ ap (λ n. headed s.block n w) c.bits_at-at.ensures in
    ap (λ b. state_of s.pages b s.roll.lists) written ∙ rewritten s.pages s.block s.roll.lists c.self.invariant.whole k w (λ p field few e. omega (arith, e, few))
    ∙ (λ j. record (c.self.view_is j) { bits = tabulate (1024 * s.pages) (bit_of (sym written j)) })

pub returns-clause-whole : goal.returns-clause-whole
returns-clause-whole c =
    let s = c.self.inside in
    length-tab (1024 * s.pages) (bit_of c.set_head.new.self) ∙ sym (length-tab (1024 * s.pages) (bit_of s.block)) ∙ ap (λ (t : PoolState). length t.bits) c.self.view_is

pub returns-clause-bits : goal.returns-clause-bits
returns-clause-bits c = λ number.
    let s = c.self.inside in let low = c.requires.there.1 in let few = c.requires.few in let there = there-in _ _ _ c.self.view_is c.requires.there.0 in let whole = c.self.invariant.whole in
    let w = c.marked_from-marks.result in let marks = c.marked_from-marks.ensures in let at = 1024 * c.args.page.number + c.args.bit in
    let written = c.set_head.ensures ∙ ap (λ n. headed s.block n w) c.bits_at-at.ensures in let old = c.head.ensures ∙ ap (slice_index s.block.heads) c.bits_at-at.ensures in
    ap (λ b. slice_index_or (tabulate (1024 * s.pages) (bit_of b)) number false) written
    ∙ run-is s.pages s.block at c.args.count w c.args.value (omega (arith, low, there)) (omega (arith, few)) (omega (arith, low, there, whole))
    (λ i from to. marks.inside i (omega (arith, from)) (omega (arith, to)))
    (λ i low-bit out. marks.outside i (elim out [
      | inl below ↦ inl (omega (arith, below))
      | inr past ↦ inr (omega (arith, past))
    ]) ∙ ap (λ x. bit_at x i) old)
    number
    ∙ ap (λ (t : PoolState). between (λ (other : ℕ). slice_index_or t.bits other false) at c.args.count c.args.value number) c.self.view_is
