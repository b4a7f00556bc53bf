-- Opening a region with a free page preserves the layout in pages; without a free page, the store is out of pages.
use Rattle.std.proofs.Common.{◌≡◌, ℕ, suc, ◌+◌, ◌<◌, List, [], ◌∷◌, ◌++◌, length, Some, refl, sym, subst, ◌∙◌, inl, inr, arith}
use Rattle.std.proofs.lemmas.Bool.{cases_eq}
use Rattle.cyc_words.specs.Demand.{region_pages, demand_of, total}
use Rattle.cyc_words.proofs.Numbers.{zero_least, when_equal, one_plus, plus_suc_after}
use Rattle.cyc_store.specs.State.{Sort, Home, handle_of, empty_home, StoreState, homes, sizes_of, sizes_in, demand, opened}
use Rattle.cyc_store.specs.declared.range.TheConstants.{PAGE_WORDS}
use Rattle.cyc_store.proofs.LookupLemmas.{when_other, lookup-append_cases}
use Rattle.cyc_store.specs.Pages.{Pages, drawn, HasChain, IsPaged}
use Rattle.cyc_store.proofs.PageLemmas.{laid-opened}
use Rattle.cyc_store.proofs.PagedRegions.{frees-rest, still-filled, still-chained}

pub demand-more : (rs : List Home) (h : ℕ) (sort : Sort) (classes : List ℕ)
    → demand_of (sizes_in (rs ++ empty_home h sort ∷ [])) classes ≡ suc (demand_of (sizes_in rs) classes)
demand-more [] h sort classes = one_plus (total classes)
demand-more (r ∷ rs) h sort classes =
    plus_suc_after (region_pages (sizes_of r.blocks)) (demand_of (sizes_in (rs ++ empty_home h sort ∷ [])) classes) (demand_of (sizes_in rs) classes) (demand-more rs h sort classes)

pub paged-opened : (s : StoreState) (pages : Pages) (page : ℕ) (free : List ℕ) (h : ℕ) (sort : Sort) → IsPaged s pages (page ∷ free)
    → IsPaged (opened s h sort) (drawn pages page h) free
paged-opened s pages page free h sort paged = record {
  laid = laid-opened pages (homes s) page h sort paged.unowned.0.owner paged.laid;
  filled = still-filled pages page 0 paged.filled (zero_least PAGE_WORDS);
  below = λ p g is. elim (cases_eq p page) [
    | inl same ↦ subst (λ n. n < s.pages) (sym same) paged.unowned.0.below
    | inr other ↦ paged.below p g (sym (when_other p page (Some h) (pages.owner p) other) ∙ is)
  ];
  unowned = frees-rest s.pages pages page h free paged.apart.0 paged.unowned.1;
  apart = paged.apart.1;
  count = one_less (length free) (demand s) s.pages (demand (opened s h sort)) paged.count (demand-more s.regions h sort s.classes);
  chains = λ g q found. elim (lookup-append_cases handle_of s.regions (empty_home h sort) g q found) [
    | inl old ↦ still-chained pages page h paged.unowned.0.owner q (paged.chains g q old)
    | inr new ↦ subst (HasChain (drawn pages page h)) (sym new) (record {
      newest = record {
        page = page;
        owned = when_equal page page (Some h) (pages.owner page) refl;
        mark = when_equal page page 0 (pages.filled page) refl;
      };
      older = [];
      owned = tt;
      apart = (tt, tt);
      many = refl;
    })
  ];
}
  where
    one_less : (n d p e : ℕ) → suc n + d ≡ p → e ≡ suc d → n + e ≡ p
    one_less n d p e count grows = omega (arith, count, grows)

-- If no page is free, then opening a region would need more pages than the store has.
pub full-opening : (s : StoreState) (pages : Pages) (h : ℕ) (sort : Sort) → IsPaged s pages [] → s.pages < demand (opened s h sort)
full-opening s pages h sort paged = beyond (demand s) s.pages (demand (opened s h sort)) paged.count (demand-more s.regions h sort s.classes)
  where
    beyond : (d p e : ℕ) → 0 + d ≡ p → e ≡ suc d → p < e
    beyond d p e count grows = omega (arith, count, grows)
