use Rattle.std.proofs.Common.{sym, ap, ◌∙◌, arith}
use Rattle.std.specs.Prelude.{slice_index}
use Rattle.cyc_rawpages.specs.inside.Pool.{PoolState}
use Rattle.cyc_rawpages.specs.declared.header.TheConstants.{OWNER}
use Rattle.cyc_rawpages.proofs.PoolLemmas.{header-in, column-read}
use Rattle.cyc_rawpages.proofs.pool.Pool.owner.Goals as goal

pub head-requires : goal.head-requires
head-requires c =
    let s = c.self.inside in let there = c.requires in let pages = ap (λ (t : PoolState). t.pages) c.self.view_is in
    rw c.header_at.ensures (header-in s.pages c.args.page.number OWNER s.block c.self.invariant.whole (omega (arith, there, pages)) (omega arith))

pub returns : goal.returns
returns c =
    let s = c.self.inside in let p = c.args.page.number in let there = c.requires in let pages = ap (λ (t : PoolState). t.pages) c.self.view_is in
    c.head.ensures ∙ ap (slice_index s.block.heads) c.header_at.ensures ∙ sym (column-read s.pages p OWNER s.block (omega (arith, there, pages))) ∙ ap (λ (t : PoolState). slice_index t.owners p) c.self.view_is
