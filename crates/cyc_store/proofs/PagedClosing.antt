-- If a region is closed, the store's blocks are still laid out in pages, and all pages of the region's chain (linked list) become free.
use Rattle.std.proofs.Common.{◌≡◌, ◌≢◌, ℕ, suc, ◌+◌, ◌<◌, List, [], ◌∷◌, ◌++◌, length, Option, None, Some, refl, sym, ap, subst, ◌∙◌, inl, inr, arith, length-append}
use Rattle.std.specs.List.{AllByRecursion}
use Rattle.std.proofs.lemmas.Bool.{cases_eq}
use Rattle.cyc_words.specs.Demand.{region_pages, demand_of}
use Rattle.cyc_words.specs.Distinct.{IsDistinct}
use Rattle.cyc_words.proofs.Numbers.{when_equal, plus_comm, plus_in_front}
use Rattle.cyc_words.proofs.Lists.{all_append}
use Rattle.cyc_words.proofs.Options.{same_from_some, never_none_and_some}
use Rattle.cyc_store.specs.State.{lookup, without, AreDistinct, Uniques, Home, handle_of, StoreState, sizes_of, sizes_in, demand}
use Rattle.cyc_store.specs.Soundness.{IsSound}
use Rattle.cyc_store.specs.declared.range.TheConstants.{UNIQUE}
use Rattle.cyc_store.proofs.LookupLemmas.{when_other, is_kept, lookup-here, lookup-there, lookup-none, lookup-key, lookup-part, lookup-without, IsPart-without}
use Rattle.cyc_store.specs.Pages.{Pages, owner_without, given_back, HasChain, IsFree, IsPaged}
use Rattle.cyc_store.proofs.PageLemmas.{laid-part, laid-closed}
use Rattle.cyc_store.proofs.PageServices.{pages-mark}

-- ---- owners of pages

pub owner-kept : (gone g : ℕ) (o : Option ℕ) → owner_without gone o ≡ Some g → o ≡ Some g
owner-kept gone g None e = e
owner-kept gone g (Some n) e = elim (cases_eq n gone) [
  | inl same ↦ absurd (never_none_and_some (when_equal n gone None (Some n) same) e)
  | inr other ↦ sym (when_other n gone None (Some n) other) ∙ e
]

pub owner-stays : (gone g : ℕ) (o : Option ℕ) → (g ≡ gone → ⊥) → o ≡ Some g → owner_without gone o ≡ Some g
owner-stays gone g o other is = ap (owner_without gone) is ∙ when_other g gone None (Some g) other

owner-goes : (gone : ℕ) (o : Option ℕ) → o ≡ Some gone → owner_without gone o ≡ None
owner-goes gone o is = ap (owner_without gone) is ∙ when_equal gone gone None (Some gone) refl

pub owned-stays : (pages : Pages) (gone g : ℕ) → (g ≡ gone → ⊥) → (older : List ℕ) → AllByRecursion (λ (p : ℕ). pages.owner p ≡ Some g) older
    → AllByRecursion (λ (p : ℕ). (given_back pages gone).owner p ≡ Some g) older
owned-stays pages gone g other [] all = tt
owned-stays pages gone g other (p ∷ older) all = (owner-stays gone g (pages.owner p) other all.0, owned-stays pages gone g other older all.1)

abbrev pub chain-stays : (pages : Pages) (gone : ℕ) (q : Home) → (q.handle ≡ gone → ⊥) → HasChain pages q → HasChain (given_back pages gone) q
chain-stays pages gone q other chain = record {
  newest = record {
    page = chain.newest.page;
    owned = owner-stays gone q.handle (pages.owner chain.newest.page) other chain.newest.owned;
    mark = chain.newest.mark;
  };
  older = chain.older;
  owned = owned-stays pages gone q.handle other chain.older chain.owned;
  apart = chain.apart;
  many = chain.many;
}

-- ---- freed pages

chain-free : (count : ℕ) (pages : Pages) (gone : ℕ) → ((p g : ℕ) → pages.owner p ≡ Some g → p < count) → (chain free : List ℕ)
    → AllByRecursion (λ (p : ℕ). pages.owner p ≡ Some gone) chain → AllByRecursion (IsFree count pages) free
    → AllByRecursion (IsFree count (given_back pages gone)) (chain ++ free)
chain-free count pages gone below [] [] owned all = tt
chain-free count pages gone below [] (p ∷ free) owned all =
    (record { owner = ap (owner_without gone) all.0.owner; below = all.0.below }, chain-free count pages gone below [] free owned all.1)
chain-free count pages gone below (p ∷ chain) free owned all =
    (record { owner = owner-goes gone (pages.owner p) owned.0; below = below p gone owned.0 }, chain-free count pages gone below chain free owned.1 all)

pub owned-apart : (count : ℕ) (pages : Pages) (p g : ℕ) → pages.owner p ≡ Some g → (free : List ℕ) → AllByRecursion (IsFree count pages) free
    → AllByRecursion (λ (y : ℕ). p ≢ y) free
owned-apart count pages p g owned [] all = tt
owned-apart count pages p g owned (y ∷ free) all = (λ e. never_none_and_some all.0.owner (ap pages.owner (sym e) ∙ owned), owned-apart count pages p g owned free all.1)

chain-apart : (count : ℕ) (pages : Pages) (g : ℕ) (chain free : List ℕ) → AllByRecursion (λ (p : ℕ). pages.owner p ≡ Some g) chain
    → AllByRecursion (IsFree count pages) free → IsDistinct chain → IsDistinct free → IsDistinct (chain ++ free)
chain-apart count pages g [] free owned all first second = second
chain-apart count pages g (p ∷ chain) free owned all first second =
    (all_append (λ (y : ℕ). p ≢ y) chain free first.0 (owned-apart count pages p g owned.0 free all), chain-apart count pages g chain free owned.1 all first.1 second)

-- ---- demand without a region

pub without-none : (rs : List Home) (h : ℕ) → lookup handle_of rs h ≡ None → without handle_of rs h ≡ rs
without-none [] h none = refl
without-none (r ∷ rs) h none =
    let (other, rest) = lookup-none handle_of r rs h none in
    when_other r.handle h (without handle_of rs h) (r ∷ without handle_of rs h) other ∙ ap (λ l. r ∷ l) (without-none rs h rest)

demand-without : (rs : List Home) (h : ℕ) (r : Home) (classes : List ℕ) → AreDistinct handle_of rs → lookup handle_of rs h ≡ Some r
    → demand_of (sizes_in (without handle_of rs h)) classes + region_pages (sizes_of r.blocks) ≡ demand_of (sizes_in rs) classes
demand-without [] h r classes distinct there = absurd (let e : None ≡ Some r = there in cc)
demand-without (q ∷ rs) h r classes distinct there = elim (cases_eq q.handle h) [
  | inl same ↦
      let is : q ≡ r = same_from_some (sym (lookup-here handle_of q rs h same) ∙ there) in
      let none : lookup handle_of rs h ≡ None = subst (λ n. lookup handle_of rs n ≡ None) same distinct.0 in
      ap (λ l. demand_of (sizes_in l) classes + region_pages (sizes_of r.blocks))
      (when_equal q.handle h (without handle_of rs h) (q ∷ without handle_of rs h) same ∙ without-none rs h none)
      ∙ (ap (λ (p : Home). demand_of (sizes_in rs) classes + region_pages (sizes_of p.blocks)) (sym is)
      ∙ plus_comm (demand_of (sizes_in rs) classes) (region_pages (sizes_of q.blocks)))
  | inr other ↦
      ap (λ l. demand_of (sizes_in l) classes + region_pages (sizes_of r.blocks))
      (when_other q.handle h (without handle_of rs h) (q ∷ without handle_of rs h) other)
      ∙ plus_in_front (region_pages (sizes_of q.blocks)) (demand_of (sizes_in (without handle_of rs h)) classes) (demand_of (sizes_in rs) classes) (region_pages (sizes_of r.blocks))
      (demand-without rs h r classes distinct.1 (sym (lookup-there handle_of q rs h other) ∙ there))
]

-- ---- closing a region

pub paged-closed : (s : StoreState) (pages : Pages) (free : List ℕ) (h : ℕ) (r : Home) → IsSound s → IsPaged s pages free → lookup handle_of s.regions h ≡ Some r
    → (h ≡ UNIQUE → ⊥) → (chain : HasChain pages r)
    → IsPaged (record s { regions = without handle_of s.regions h }) (given_back pages h) ((chain.newest.page ∷ chain.older) ++ free)
paged-closed s pages free h r sound paged named ordinary chain = record {
  laid = laid-closed pages h (record { handle = UNIQUE; sort = Uniques; blocks = s.unique } ∷ without handle_of s.regions h)
      (lookup-there handle_of (record { handle = UNIQUE; sort = Uniques; blocks = s.unique }) (without handle_of s.regions h) h (λ e. ordinary (sym e))
      ∙ lookup-without handle_of s.regions h)
      (laid-part pages (is_kept {x = record { handle = UNIQUE; sort = Uniques; blocks = s.unique }} (IsPart-without handle_of s.regions h)) paged.laid);
  filled = paged.filled;
  below = λ p g is. paged.below p g (owner-kept h g (pages.owner p) is);
  unowned = chain-free s.pages pages h paged.below (chain.newest.page ∷ chain.older) free owned paged.unowned;
  apart = chain-apart s.pages pages h (chain.newest.page ∷ chain.older) free owned paged.unowned chain.apart paged.apart;
  count = all_counted (length ((chain.newest.page ∷ chain.older) ++ free)) (suc (length chain.older)) (length free) (demand s)
      (demand_of (sizes_in (without handle_of s.regions h)) s.classes) (region_pages (sizes_of r.blocks)) s.pages
      (length-append (chain.newest.page ∷ chain.older) free) (chain.many ∙ sym (pages-mark r))
      (demand-without s.regions h r s.classes sound.regions.handles.1 named) paged.count;
  chains = λ g q found.
      let old : lookup handle_of s.regions g ≡ Some q = lookup-part handle_of (IsPart-without handle_of s.regions h) sound.regions.handles.1 g q found in
      let other : (g ≡ h → ⊥) = λ e. never_none_and_some (lookup-without handle_of s.regions h) (subst (λ n. lookup handle_of (without handle_of s.regions h) n ≡ Some q) e found) in
      chain-stays pages h q (λ e. other (sym (lookup-key handle_of s.regions g q old) ∙ e)) (paged.chains g q old);
}
  where
    owned : AllByRecursion (λ (p : ℕ). pages.owner p ≡ Some h) (chain.newest.page ∷ chain.older)
    owned = subst (λ n. AllByRecursion (λ (p : ℕ). pages.owner p ≡ Some n) (chain.newest.page ∷ chain.older)) (lookup-key handle_of s.regions h r named)
        (chain.newest.owned, chain.owned)

    all_counted : (l a f d e t p : ℕ) → l ≡ a + f → a ≡ t → e + t ≡ d → f + d ≡ p → l + e ≡ p
    all_counted l a f d e t p first second third fourth = omega (arith, first, second, third, fourth)
