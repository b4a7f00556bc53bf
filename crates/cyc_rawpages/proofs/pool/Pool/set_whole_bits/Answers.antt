use Rattle.std.proofs.Common.{◌≡◌, ℕ, ◌+◌, ◌*◌, ◌/◌, ◌≤◌, false, length, sym, ap, subst, ◌∙◌, arith}
use Rattle.std.specs.Prelude.{slice_index_or}
use Rattle.cyc_rawpages.specs.inside.Words.{headed_all}
use Rattle.cyc_rawpages.specs.inside.Pool.{PoolState, bit_of, between, tabulate, state_of, IsPool}
use Rattle.cyc_rawpages.proofs.Columns.{length-tab}
use Rattle.cyc_rawpages.proofs.BitRuns.{words-pool, words-same, words-are}
use Rattle.cyc_rawpages.proofs.PoolLemmas.{there-in}
use Rattle.cyc_rawpages.proofs.pool.Pool.set_whole_bits.Goals as goal

pub set_heads-requires-clause-few : goal.set_heads-requires-clause-few
set_heads-requires-clause-few c =
    let s = c.self.inside in let there = there-in _ _ _ c.self.view_is c.requires.there.0 in
    omega (arith, c.bits_at-first.ensures, c.self.invariant.up.few, there, c.requires.there.1, c.requires.there.2)

pub invariant_of-self : goal.invariant_of-self
invariant_of-self c =
    let s = c.self.inside in let there = there-in _ _ _ c.self.view_is c.requires.there.0 in let w = c.marked_from-marks.result in let n : ℕ = c.args.count / 32 in
    let small : c.args.bit + 32 * n ≤ 1024 = omega (arith, c.requires.there.2) in
    subst (λ b. IsPool s.pages b s.first s.roll.lists) (sym (c.set_heads.ensures ∙ ap (λ k. headed_all s.block k n w) c.bits_at-first.ensures))
    (words-pool s.pages s.block s.first s.roll.lists c.args.page.number c.args.bit w c.args.value there c.requires.aligned.0 c.self.invariant (λ i low. c.marked_from-marks.ensures.inside i (omega arith) low) n small)

pub returns-clause-same : goal.returns-clause-same
returns-clause-same c =
    let s = c.self.inside in let there = there-in _ _ _ c.self.view_is c.requires.there.0 in let w = c.marked_from-marks.result in let n : ℕ = c.args.count / 32 in
    let small : c.args.bit + 32 * n ≤ 1024 = omega (arith, c.requires.there.2) in
    let written = c.set_heads.ensures ∙ ap (λ k. headed_all s.block k n w) c.bits_at-first.ensures in
    ap (λ b. state_of s.pages b s.roll.lists) written
    ∙ words-same s.pages s.block s.first s.roll.lists c.args.page.number c.args.bit w c.args.value there c.requires.aligned.0 c.self.invariant (λ i low. c.marked_from-marks.ensures.inside i (omega arith) low) n small
    ∙ (λ j. record (c.self.view_is j) { bits = tabulate (1024 * s.pages) (bit_of (sym written j)) })

pub returns-clause-whole : goal.returns-clause-whole
returns-clause-whole c =
    let s = c.self.inside in
    length-tab (1024 * s.pages) (bit_of c.set_heads.new.self) ∙ sym (length-tab (1024 * s.pages) (bit_of s.block)) ∙ ap (λ (t : PoolState). length t.bits) c.self.view_is

pub returns-clause-bits : goal.returns-clause-bits
returns-clause-bits c = λ number.
    let s = c.self.inside in let there = there-in _ _ _ c.self.view_is c.requires.there.0 in let w = c.marked_from-marks.result in let n : ℕ = c.args.count / 32 in
    let at : ℕ = 1024 * c.args.page.number + c.args.bit in
    let small : c.args.bit + 32 * n ≤ 1024 = omega (arith, c.requires.there.2) in
    let all : 32 * n ≡ c.args.count = omega (arith, c.requires.aligned.1) in
    let written = c.set_heads.ensures ∙ ap (λ k. headed_all s.block k n w) c.bits_at-first.ensures in
    ap (λ b. slice_index_or (tabulate (1024 * s.pages) (bit_of b)) number false) written
    ∙ words-are s.pages s.block s.first s.roll.lists c.args.page.number c.args.bit w c.args.value there c.requires.aligned.0 c.self.invariant (λ i low. c.marked_from-marks.ensures.inside i (omega arith) low) n small number
    ∙ ap (λ m. between (λ (other : ℕ). slice_index_or (tabulate (1024 * s.pages) (bit_of s.block)) other false) at m c.args.value number) all
    ∙ ap (λ (t : PoolState). between (λ (other : ℕ). slice_index_or t.bits other false) at c.args.count c.args.value number) c.self.view_is
