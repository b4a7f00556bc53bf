use Rattle.std.proofs.Common.{ℕ, List, [], ◌∷◌, ◌++◌, set, length-set, sym, ap, subst, ◌∙◌, arith}
use Rattle.std.specs.Prelude.{slice_index}
use Rattle.cyc_rawpages.specs.inside.Lists.{Lists, chain_at, after}
use Rattle.cyc_rawpages.specs.declared.change.Change.TheVariants.{Pushed}
use Rattle.cyc_rawpages.specs.inside.Words.{Parts, headed}
use Rattle.cyc_rawpages.specs.inside.Pool.{PoolState, header_at, field_of, state_of, IsHead, IsPool}
use Rattle.cyc_rawpages.specs.declared.header.TheConstants.{NEXT, TAIL}
use Rattle.cyc_rawpages.proofs.Columns.{linked}
use Rattle.cyc_rawpages.proofs.Heads.{head-pushed}
use Rattle.cyc_rawpages.proofs.PoolLemmas.{header-in, tail-there, pool-pushed, there-in, head-in, alone-in}
use Rattle.cyc_rawpages.proofs.pool.Pool.chain_push.Goals as goal

pub set_head-requires : goal.set_head-requires
set_head-requires c =
    let s = c.self.inside in let head = c.args.head.number in let is = head-in _ _ _ c.self.view_is c.requires.head.1 in
    rw (c.header_at-2.ensures, c.head-tail.ensures, c.header_at.ensures)
    (header-in s.pages (field_of s.block TAIL head) NEXT s.block c.self.invariant.whole (tail-there s.pages s.block s.first s.roll.lists c.self.invariant head is.0 (there-in _ _ _ c.self.view_is c.requires.head.0) is.1) (omega arith))

pub invariant_of-self : goal.invariant_of-self
invariant_of-self c =
    let s = c.self.inside in let head = c.args.head.number in let page = c.args.page.number in let is = head-in _ _ _ c.self.view_is c.requires.head.1 in
    let tail = c.head-tail.ensures ∙ ap (slice_index s.block.heads) c.header_at.ensures in
    subst (λ (u : Parts × Lists). IsPool s.pages u.0 s.first u.1)
    (λ j. (sym (c.set_head-2.ensures ∙ (λ i. headed ((c.set_head.ensures ∙ ap (λ k. headed s.block k page) (c.header_at-2.ensures ∙ ap (λ t. header_at t NEXT) tail)) i) (c.header_at-3.ensures i) page)) j, sym c.with-self-inside.ensures j))
    (pool-pushed s.pages s.block s.first s.roll.lists c.self.invariant head is.0 (there-in _ _ _ c.self.view_is c.requires.head.0) is.1 page (there-in _ _ _ c.self.view_is c.requires.page.0) c.requires.other (alone-in _ _ _ c.self.view_is c.requires.page.1))

pub returns-clause-pushed : goal.returns-clause-pushed
returns-clause-pushed c =
    let s = c.self.inside in let head = c.args.head.number in let page = c.args.page.number in let l = after s.roll.lists (Pushed head page) in let n = header_at c.head-tail.result NEXT in
    (λ j. state_of s.pages ((c.set_head-2.ensures ∙ (λ i. headed ((c.set_head.ensures ∙ ap (λ k. headed s.block k page) c.header_at-2.ensures) i) (c.header_at-3.ensures i) page)) j) (c.with-self-inside.ensures j))
    ∙ linked s.pages (headed s.block n page) l (length-set s.block.heads n page ∙ c.self.invariant.whole) head TAIL page (omega arith) (omega arith)
    ∙ linked s.pages s.block l c.self.invariant.whole c.head-tail.result NEXT page (omega arith) (omega arith)
    ∙ ap (λ (t : PoolState). record t { chains = set (set t.chains head (chain_at t.chains head ++ page ∷ [])) page [] }) c.self.view_is

pub returns-clause-head : goal.returns-clause-head
returns-clause-head c =
    let s = c.self.inside in let head = c.args.head.number in let page = c.args.page.number in
    subst (λ (chains : List (List ℕ)). IsHead chains head) (sym (ap (λ (l : Lists). l.chains) c.with-self-inside.ensures))
    (head-pushed s.roll.lists.chains head page (head-in _ _ _ c.self.view_is c.requires.head.1) c.requires.other)
