use Rattle.std.proofs.Common.{◌*◌, length, sym, ap, subst, ◌∙◌}
use Rattle.cyc_rawpages.specs.inside.Lists.{all_free}
use Rattle.std.proofs.lemmas.List.{length-replicate}
use Rattle.cyc_rawpages.specs.inside.Words.{Parts}
use Rattle.cyc_rawpages.specs.inside.Pool.{state_of, IsPool}
use Rattle.cyc_rawpages.proofs.Fresh.{fresh-pool, fresh-state}
use Rattle.cyc_rawpages.proofs.pool.Pool.new.Goals as goal

pub invariant_of-result : goal.invariant_of-result
invariant_of-result c =
    let new = c.link_all-first.new.block in
    subst (IsPool c.args.pages new c.link_all-first.result) (sym c.with.ensures) (fresh-pool c.args.pages c.in_ok-block.block new c.link_all-first.result c.requires (ap (λ (b : Parts). length b.words) c.in_ok-block.ensures ∙ length-replicate (1024 * c.args.pages) 0) c.link_all-first.ensures)

pub returns : goal.returns
returns c =
    let pages = c.args.pages in
    ap (state_of pages c.link_all-first.new.block) c.with.ensures ∙ c.link_all-first.ensures.same (all_free pages) ∙ ap (λ b. state_of pages b (all_free pages)) c.in_ok-block.ensures
    ∙ fresh-state pages (40 * pages)
