use Rattle.std.proofs.Common.{ℕ, [], ◌∷◌, ◌<◌, length, replicate, set, refl, sym, ap, subst, ◌∙◌, arith}
use Rattle.std.specs.Prelude.{false, slice_index}
use Rattle.cyc_rawpages.specs.inside.Lists.{Lists, after}
use Rattle.cyc_rawpages.specs.declared.change.Change.TheVariants.{Taken}
use Rattle.cyc_rawpages.specs.inside.Words.{Parts, headed}
use Rattle.cyc_rawpages.specs.inside.Pool.{PoolState, state_of, IsFree, IsPool}
use Rattle.cyc_rawpages.specs.declared.header.TheConstants.{NEXT, TAIL}
use Rattle.cyc_rawpages.proofs.Columns.{linked}
use Rattle.cyc_rawpages.proofs.PoolLemmas.{header-in, first-there, first-free, taken-free, no-free, pool-taken}
use Rattle.cyc_rawpages.proofs.pool.Pool.take.Goals as goal

pub returns-then-page : goal.returns-then-page
returns-then-page c =
    let s = c.self.inside in
    (ap (λ (t : PoolState). t.free) (sym c.self.view_is) ∙ no-free s.pages s.block s.first s.roll.lists c.self.invariant c.if-page.true ∙ ap (λ (t : PoolState). replicate t.pages false) c.self.view_is, refl)

pub head-self-inside-requires : goal.head-self-inside-requires
head-self-inside-requires c =
    let s = c.self.inside in rw c.header_at.ensures (header-in s.pages s.first NEXT s.block c.self.invariant.whole (first-there s.pages s.block s.first s.roll.lists c.self.invariant c.if-page.false) (omega arith))

pub set_head-requires : goal.set_head-requires
set_head-requires c =
    let s = c.self.inside in rw c.header_at-2.ensures (header-in s.pages s.first TAIL s.block c.self.invariant.whole (first-there s.pages s.block s.first s.roll.lists c.self.invariant c.if-page.false) (omega arith))

pub make-requires : goal.make-requires
make-requires c =
    let s = c.self.inside in let there = first-there s.pages s.block s.first s.roll.lists c.self.invariant c.if-page.false in let all = c.self.invariant.words in
    let same = ap (λ (b : Parts). length b.words) c.set_head.ensures in omega (arith, there, all, same)

pub invariant_of-self : goal.invariant_of-self
invariant_of-self c =
    let s = c.self.inside in
    subst (λ (u : Parts × ℕ × Lists). IsPool s.pages u.0 u.1 u.2)
    (λ j. (sym (c.make.ensures.same ∙ ap (λ (b : Parts). record b { made = c.make.new.self.made }) (c.set_head.ensures ∙ ap (λ k. headed s.block k s.first) c.header_at-2.ensures)) j, sym (c.head-self-inside.ensures ∙ ap (λ k. slice_index s.block.heads k) c.header_at.ensures) j, sym c.with-self-inside.ensures j))
    (let more = c.make.ensures.more.0 in let old = ap (λ (b : Parts). b.made) c.set_head.ensures in
    pool-taken s.pages s.block s.first s.roll.lists c.self.invariant c.if-page.false c.make.new.self.made (omega (arith, more, old)) c.make.ensures.more.1)

pub returns : goal.returns
returns c =
    let s = c.self.inside in let l = s.roll.lists in let some = c.if-page.false in (
      subst (λ (t : PoolState). s.first < t.pages) c.self.view_is (first-there s.pages s.block s.first l c.self.invariant some),
      subst (λ (t : PoolState). IsFree t.free s.first) c.self.view_is (first-free s.pages s.block s.first l c.self.invariant some),
      (λ j. state_of s.pages ((c.make.ensures.same ∙ ap (λ (b : Parts). record b { made = c.make.new.self.made }) (c.set_head.ensures ∙ ap (λ k. headed s.block k s.first) c.header_at-2.ensures)) j) (c.with-self-inside.ensures j))
          ∙ linked s.pages s.block (after l (Taken s.first)) c.self.invariant.whole s.first TAIL s.first (omega arith) (omega arith)
          ∙ (λ j. record (state_of s.pages s.block l) { free = taken-free s.pages s.block s.first l c.self.invariant some j; chains = set l.chains s.first (s.first ∷ []) })
          ∙ ap (λ (t : PoolState). record t { free = set t.free s.first false; chains = set t.chains s.first (s.first ∷ []) }) c.self.view_is,
    )
