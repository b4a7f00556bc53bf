use Rattle.std.proofs.Common.{refl, subst}
use Rattle.cyc_types.specs.TypedTreeView.{view_program}
use Rattle.cyc_bound.specs.declared.pages.PageBound.{PageBound}
use Rattle.cyc_bound.specs.inside.ItemCosts.{IsUniqueAnswer}
use Rattle.cyc_bound.specs.inside.RegionCosts.{IsRegionAnswer}
use Rattle.cyc_bound.proofs.PageSums.{pages_both, no_uniques}
use Rattle.cyc_bound.proofs.pages.pages_of.Goals as goal

pub returns-in-Pages-2 : goal.returns-in-Pages-2
returns-in-Pages-2 c =
    let p = view_program c.args.tree.now in
    let b = c.in_ok-gives_back.gives_back in
    pages_both p b c.in-Pages.count c.in-Pages-2.count _ c.in_ok-gives_back.ensures (subst (λ (bound : PageBound). IsRegionAnswer p b bound) c.in-Pages.is c.in_ok-other.ensures)
    (subst (λ (bound : PageBound). IsUniqueAnswer p bound) c.in-Pages-2.is c.in_ok-other-2.ensures) refl

pub returns : goal.returns
returns c = no_uniques (view_program c.args.tree.now) c.in_ok-gives_back.gives_back c.in_ok-other-2.other c.in_ok-gives_back.ensures c.in_default-2.not-Pages c.in_ok-other-2.ensures
