use Rattle.std.proofs.Common.{[], set, sym, ap, subst, ◌∙◌, arith}
use Rattle.std.specs.Prelude.{slice_index}
use Rattle.cyc_rawpages.specs.inside.Lists.{Lists, chain_at, after, freed}
use Rattle.cyc_rawpages.specs.declared.change.Change.TheVariants.{Given}
use Rattle.cyc_rawpages.specs.inside.Words.{Parts, headed}
use Rattle.cyc_rawpages.specs.inside.Pool.{PoolState, header_at, field_of, state_of, IsPool}
use Rattle.cyc_rawpages.specs.declared.header.TheConstants.{NEXT, TAIL}
use Rattle.cyc_rawpages.proofs.Columns.{linked}
use Rattle.cyc_rawpages.proofs.PoolLemmas.{header-in, tail-there, given-free, pool-given, there-in, head-in}
use Rattle.cyc_rawpages.proofs.pool.Pool.give_chain.Goals as goal

pub head-tail-requires : goal.head-tail-requires
head-tail-requires c =
    let s = c.self.inside in rw c.header_at.ensures (header-in s.pages c.args.chain.head.number TAIL s.block c.self.invariant.whole (there-in _ _ _ c.self.view_is c.requires.there) (omega arith))

pub set_head-requires : goal.set_head-requires
set_head-requires c =
    let s = c.self.inside in let head = c.args.chain.head.number in let is = head-in _ _ _ c.self.view_is c.requires.head in
    rw (c.header_at-2.ensures, c.head-tail.ensures, c.header_at.ensures)
    (header-in s.pages (field_of s.block TAIL head) NEXT s.block c.self.invariant.whole (tail-there s.pages s.block s.first s.roll.lists c.self.invariant head is.0 (there-in _ _ _ c.self.view_is c.requires.there) is.1) (omega arith))

pub invariant_of-self : goal.invariant_of-self
invariant_of-self c =
    let s = c.self.inside in let head = c.args.chain.head.number in let is = head-in _ _ _ c.self.view_is c.requires.head in
    let tail = c.head-tail.ensures ∙ ap (slice_index s.block.heads) c.header_at.ensures in
    subst (λ (u : Parts × Lists). IsPool s.pages u.0 head u.1)
    (λ j. (sym (c.set_head.ensures ∙ ap (λ k. headed s.block k s.first) (c.header_at-2.ensures ∙ ap (λ t. header_at t NEXT) tail)) j, sym c.with-self-inside.ensures j))
    (pool-given s.pages s.block s.first s.roll.lists c.self.invariant head is.0 (there-in _ _ _ c.self.view_is c.requires.there) is.1)

pub returns : goal.returns
returns c =
    let s = c.self.inside in let head = c.args.chain.head.number in let l = s.roll.lists in let is = head-in _ _ _ c.self.view_is c.requires.head in
    (λ j. state_of s.pages ((c.set_head.ensures ∙ ap (λ k. headed s.block k s.first) c.header_at-2.ensures) j) (c.with-self-inside.ensures j))
    ∙ linked s.pages s.block (after l (Given head)) c.self.invariant.whole c.head-tail.result NEXT s.first (omega arith) (omega arith)
    ∙ (λ j. record (state_of s.pages s.block l) { free = given-free s.pages s.block s.first l c.self.invariant head is.0 (there-in _ _ _ c.self.view_is c.requires.there) is.1 j; chains = set l.chains head [] })
    ∙ ap (λ (t : PoolState). record t { free = freed t.free (chain_at t.chains head); chains = set t.chains head [] }) c.self.view_is
