-- This file is about allocation in a region that consists of pages: if the region's newest page has too little space, the region takes
-- another page. The store is out of pages exactly if no page is free.
use Rattle.std.proofs.Common.{◌≡◌, ℕ, suc, ◌+◌, ◌*◌, ◌<◌, ◌≤◌, List, [], ◌∷◌, ◌++◌, length, None, Some, refl, sym, ap, subst, ◌∙◌, inl, inr, arith}
use Rattle.std.specs.Prelude.{nat_le}
use Rattle.std.proofs.lemmas.List.{map-append}
use Rattle.std.proofs.lemmas.Bool.{cases_eq, cond-true, cond-false, le-leb, lt-leb}
use Rattle.cyc_words.specs.Demand.{region_pages, demand_of}
use Rattle.cyc_words.proofs.Numbers.{when_equal, balance_in_front, balance_turned, balance_same, balance_one_more}
use Rattle.cyc_words.proofs.Options.{same_from_some}
use Rattle.cyc_store.specs.State.{lookup, changed, put, Block, Home, handle_of, StoreState, homes, sizes_of, sizes_in, demand, with_block, made_in}
use Rattle.cyc_store.specs.Services.{IsPlaced, IsApart}
use Rattle.cyc_store.specs.declared.range.TheConstants.{PAGE_WORDS}
use Rattle.cyc_store.proofs.LookupLemmas.{when_other, lookup-here, lookup-there}
use Rattle.cyc_store.specs.Pages.{page_start, LiesIn, Pages, drawn, Mark, next_mark, mark_from, mark_of, HasNewest, IsPaged}
use Rattle.cyc_store.proofs.PageLemmas.{laid-apart, lies-placed, laid-drawn, mark-pages, mark-append}

-- ---- demand after one more block

sizes-last : (bs : List Block) (b : Block) → sizes_of (bs ++ b ∷ []) ≡ sizes_of bs ++ b.size ∷ []
sizes-last bs b = map-append (λ (c : Block). c.size) bs (b ∷ [])

demand-changed : (rs : List Home) (h : ℕ) (r : Home) (b : Block) (classes : List ℕ) → lookup handle_of rs h ≡ Some r
    → demand_of (sizes_in (changed handle_of (with_block b) rs h)) classes + region_pages (sizes_of r.blocks)
    ≡ demand_of (sizes_in rs) classes + region_pages (sizes_of r.blocks ++ b.size ∷ [])
demand-changed [] h r b classes there = absurd (let e : None ≡ Some r = there in cc)
demand-changed (q ∷ rs) h r b classes there = elim (cases_eq q.handle h) [
  | inl same ↦
      let is : q ≡ r = same_from_some (sym (lookup-here handle_of q rs h same) ∙ there) in
      ap (λ l. demand_of (sizes_in l) classes + region_pages (sizes_of r.blocks))
      (when_equal q.handle h (with_block b q ∷ rs) (q ∷ changed handle_of (with_block b) rs h) same)
      ∙ subst
      (λ (p : Home). demand_of (sizes_in (with_block b q ∷ rs)) classes + region_pages (sizes_of p.blocks)
      ≡ demand_of (sizes_in (q ∷ rs)) classes + region_pages (sizes_of p.blocks ++ b.size ∷ []))
      is
      (balance_turned (region_pages (sizes_of q.blocks)) (region_pages (sizes_of q.blocks ++ b.size ∷ [])) (demand_of (sizes_in rs) classes)
      (region_pages (sizes_of (q.blocks ++ b ∷ []))) (ap region_pages (sizes-last q.blocks b)))
  | inr other ↦
      ap (λ l. demand_of (sizes_in l) classes + region_pages (sizes_of r.blocks))
      (when_other q.handle h (with_block b q ∷ rs) (q ∷ changed handle_of (with_block b) rs h) other)
      ∙ balance_in_front (region_pages (sizes_of q.blocks)) (demand_of (sizes_in (changed handle_of (with_block b) rs h)) classes) (demand_of (sizes_in rs) classes)
      (region_pages (sizes_of r.blocks)) (region_pages (sizes_of r.blocks ++ b.size ∷ []))
      (demand-changed rs h r b classes (sym (lookup-there handle_of q rs h other) ∙ there))
]

-- The number of pages of a region is the number of pages that its fill mark (pages, and filled words of the last page) states.
pub pages-mark : (r : Home) → region_pages (sizes_of r.blocks) ≡ (mark_of r).pages
pages-mark r = sym (mark-pages (record { pages = 1; filled = 0 }) (sizes_of r.blocks))

pages-next : (r : Home) (size : ℕ) → region_pages (sizes_of r.blocks ++ size ∷ []) ≡ (next_mark (mark_of r) size).pages
pages-next r size =
    sym (mark-pages (record { pages = 1; filled = 0 }) (sizes_of r.blocks ++ size ∷ []))
    ∙ ap (λ (m : Mark). m.pages) (mark-append (record { pages = 1; filled = 0 }) (sizes_of r.blocks) size)

pub mark-made : (r : Home) (b : Block) → mark_of (with_block b r) ≡ next_mark (mark_of r) b.size
mark-made r b =
    ap (mark_from (record { pages = 1; filled = 0 })) (sizes-last r.blocks b)
    ∙ mark-append (record { pages = 1; filled = 0 }) (sizes_of r.blocks) b.size

module _ (m : Mark) (size : ℕ) where
  pub mark-stays : m.filled + size ≤ PAGE_WORDS → next_mark m size ≡ record { pages = m.pages; filled = m.filled + size }
  mark-stays room = cond-true (nat_le (m.filled + size) PAGE_WORDS) _ _ (le-leb (m.filled + size) PAGE_WORDS room)

  pub mark-goes : PAGE_WORDS < m.filled + size → next_mark m size ≡ record { pages = suc m.pages; filled = size }
  mark-goes past = cond-false (nat_le (m.filled + size) PAGE_WORDS) _ _ (lt-leb (m.filled + size) PAGE_WORDS past)

-- ---- one block more

module _ (s : StoreState) (pages : Pages) (free : List ℕ) (paged : IsPaged s pages free) (h : ℕ) (r : Home) (named : lookup handle_of s.regions h ≡ Some r) where
  -- If the newest page of a region has space for a block, then allocating this block does not raise the number of pages that the
  -- store needs.
  pub demand-stays : (b : Block) → (mark_of r).filled + b.size ≤ PAGE_WORDS → demand (made_in s h b) ≡ demand s
  demand-stays b room =
      balance_same (demand (made_in s h b)) (demand s) (region_pages (sizes_of r.blocks)) (region_pages (sizes_of r.blocks ++ b.size ∷ []))
      (demand-changed s.regions h r b s.classes named)
      (pages-next r b.size ∙ (ap (λ (m : Mark). m.pages) (mark-stays (mark_of r) b.size room) ∙ sym (pages-mark r)))

  -- If the newest page of a region has no space for a block, then allocating this block raises the number of pages that
  -- the store needs by 1.
  pub demand-grows : (b : Block) → PAGE_WORDS < (mark_of r).filled + b.size → demand (made_in s h b) ≡ suc (demand s)
  demand-grows b past =
      balance_one_more (demand (made_in s h b)) (demand s) (region_pages (sizes_of r.blocks)) (region_pages (sizes_of r.blocks ++ b.size ∷ []))
      (demand-changed s.regions h r b s.classes named)
      (pages-next r b.size ∙ (ap (λ (m : Mark). m.pages) (mark-goes (mark_of r) b.size past) ∙ ap suc (sym (pages-mark r))))

  -- If no page is free and the newest page of the region has no space for the block, then the store is out of pages.
  pub full-without : (b : Block) → free ≡ [] → PAGE_WORDS < (mark_of r).filled + b.size → s.pages < demand (made_in s h b)
  full-without b none past = beyond (length free) (demand s) s.pages (demand (made_in s h b)) (ap length none) paged.count (demand-grows b past)
    where
      beyond : (n d p e : ℕ) → n ≡ 0 → n + d ≡ p → e ≡ suc d → p < e
      beyond n d p e none count grows = omega (arith, none, count, grows)

  -- A block that is allocated in the newest page of its region lies in the store's range and is disjoint from all blocks.
  pub stays-placed : (b : Block) (newest : HasNewest pages r) → b.address ≡ page_start newest.page + 4 * (mark_of r).filled
      → (mark_of r).filled + b.size ≤ PAGE_WORDS → 0 < b.size → IsPlaced s.pages b × IsApart (homes s) b
  stays-placed b newest at room some = (
    lies-placed s.pages newest.page (pages.filled newest.page) PAGE_WORDS b (paged.below newest.page r.handle newest.owned) (same PAGE_WORDS) lies,
    laid-apart pages (homes s) newest.page b paged.laid paged.filled lies,
  )
    where
      same : (n : ℕ) → n ≤ n
      same n = omega arith

      lies : LiesIn newest.page (pages.filled newest.page) PAGE_WORDS b
      lies = record {
        word = (mark_of r).filled;
        at = at;
        after = subst (λ n. n ≤ (mark_of r).filled) (sym newest.mark) (same (mark_of r).filled);
        before = room;
        some = some;
      }

-- A block that is allocated at the start of a new page lies in the store's range and is disjoint from all blocks.
pub drawn-placed : (s : StoreState) (pages : Pages) (page : ℕ) (free : List ℕ) → IsPaged s pages (page ∷ free) → (h : ℕ) (b : Block)
    → b.address ≡ page_start page → 0 < b.size → b.size ≤ PAGE_WORDS → IsPlaced s.pages b × IsApart (homes s) b
drawn-placed s pages page free paged h b at some room = (
  lies-placed s.pages page 0 PAGE_WORDS b paged.unowned.0.below (same PAGE_WORDS) lies,
  laid-apart (drawn pages page h) (homes s) page b
      (laid-drawn pages page h (homes s) paged.unowned.0.owner paged.laid)
      full
      (record {
        word = 0;
        at = start;
        after = subst (λ n. n ≤ 0) (sym (when_equal page page 0 (pages.filled page) refl)) (same 0);
        before = from_zero b.size PAGE_WORDS room;
        some = some;
      }),
)
  where
    same : (n : ℕ) → n ≤ n
    same n = omega arith

    from_zero : (n m : ℕ) → n ≤ m → 0 + n ≤ m
    from_zero n m e = omega (arith, e)

    no_words : (n : ℕ) → n ≡ n + 4 * 0
    no_words n = omega arith

    start : b.address ≡ page_start page + 4 * 0
    start = at ∙ no_words (page_start page)

    lies : LiesIn page 0 PAGE_WORDS b
    lies = record { word = 0; at = start; after = same 0; before = from_zero b.size PAGE_WORDS room; some = some }

    least : (n : ℕ) → 0 ≤ n
    least n = omega arith

    full : (other : ℕ) → put pages.filled page 0 other ≤ PAGE_WORDS
    full other = elim (cases_eq other page) [
      | inl is ↦ subst (λ n. n ≤ PAGE_WORDS) (sym (when_equal other page 0 (pages.filled other) is)) (least PAGE_WORDS)
      | inr away ↦ subst (λ n. n ≤ PAGE_WORDS) (sym (when_other other page 0 (pages.filled other) away)) (paged.filled other)
    ]
