use Rattle.std.proofs.Common.{◌≡◌, true, ap, subst, ◌∙◌, inl, inr, arith}
use Rattle.std.specs.Prelude.{false, slice_index_or}
use Rattle.cyc_rawpages.specs.inside.Lists.{is_among}
use Rattle.cyc_rawpages.specs.inside.Pool.{PoolState}
use Rattle.cyc_rawpages.proofs.Columns.{tab-read}
use Rattle.cyc_rawpages.proofs.PoolLemmas.{there-in}
use Rattle.cyc_rawpages.proofs.pool.Pool.made.Goals as goal

pub returns-clause-within : goal.returns-clause-within
returns-clause-within c =
    let within = c.made.ensures.within in let all = c.self.invariant.words in let pages = ap (λ (t : PoolState). t.pages) c.self.view_is in omega (arith, within, all, pages)

pub returns-clause-taken : goal.returns-clause-taken
returns-clause-taken c = λ page there.
    let s = c.self.inside in let below = there-in _ _ _ c.self.view_is there in let is = c.made.ensures.is in
    elim (c.self.invariant.made page below) [
      | inl among ↦ inl (subst (λ (t : PoolState). slice_index_or t.free page false ≡ true) c.self.view_is (tab-read s.pages (is_among s.roll.lists.free) page false below ∙ among))
      | inr low ↦ inr (omega (arith, low, is))
    ]
