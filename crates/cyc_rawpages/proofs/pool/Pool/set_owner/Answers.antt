use Rattle.std.proofs.Common.{set, sym, ap, subst, ◌∙◌, arith}
use Rattle.cyc_rawpages.specs.inside.Words.{headed}
use Rattle.cyc_rawpages.specs.inside.Pool.{PoolState, header_at, state_of, IsPool}
use Rattle.cyc_rawpages.specs.declared.header.TheConstants.{OWNER}
use Rattle.cyc_rawpages.proofs.Columns.{owned}
use Rattle.cyc_rawpages.proofs.PoolLemmas.{header-in, kept}
use Rattle.cyc_rawpages.proofs.pool.Pool.set_owner.Goals as goal

pub set_head-requires : goal.set_head-requires
set_head-requires c =
    let s = c.self.inside in let there = c.requires in let pages = ap (λ (t : PoolState). t.pages) c.self.view_is in
    rw c.header_at.ensures (header-in s.pages c.args.page.number OWNER s.block c.self.invariant.whole (omega (arith, there, pages)) (omega arith))

pub invariant_of-self : goal.invariant_of-self
invariant_of-self c =
    let s = c.self.inside in
    subst (λ b. IsPool s.pages b s.first s.roll.lists) (sym (c.set_head.ensures ∙ ap (λ k. headed s.block k c.args.owner) c.header_at.ensures))
    (kept s.pages s.block s.first s.roll.lists c.self.invariant (header_at c.args.page.number OWNER) c.args.owner (λ p. ((λ e. omega (arith, e)), (λ e. omega (arith, e)))))

pub returns : goal.returns
returns c =
    let s = c.self.inside in let p = c.args.page.number in let there = c.requires in let pages = ap (λ (t : PoolState). t.pages) c.self.view_is in
    ap (λ b. state_of s.pages b s.roll.lists) (c.set_head.ensures ∙ ap (λ k. headed s.block k c.args.owner) c.header_at.ensures)
    ∙ owned s.pages s.block s.roll.lists c.self.invariant.whole p c.args.owner (omega (arith, there, pages))
    ∙ ap (λ (t : PoolState). record t { owners = set t.owners p c.args.owner }) c.self.view_is
