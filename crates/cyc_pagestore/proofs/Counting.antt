-- Each call of the store counts the pages in use correctly.
use Rattle.std.proofs.Common.{◌≡◌, ℕ, suc, ◌+◌, ◌-◌, ◌<◌, ◌≤◌, List, [], ◌∷◌, ◌++◌, length, length-append, length-set, set, replicate, None, Some, refl, sym, ap, subst, ◌∙◌, inl, inr, arith}
use Rattle.std.specs.Prelude.{slice_index}
use Rattle.std.proofs.lemmas.Bool.{cases_eq}
use Rattle.std.proofs.lemmas.List.{get_or-set_same, get_or-set_other, length-replicate}
use Rattle.cyc_words.specs.Demand.{greatest_class, region_pages}
use Rattle.cyc_words.proofs.Numbers.{same_from_odd}
use Rattle.cyc_words.proofs.Options.{never_none_and_some, same_from_some}
use Rattle.cyc_store.specs.Ledger.{Blocks, no_blocks, after, store_of, plain_store, blocks_of}
use Rattle.cyc_store.specs.Pages.{Mark, next_mark, mark_of, HasChain}
use Rattle.cyc_store.specs.State.{lookup, without, AreDistinct, Sort, Block, Home, handle_of, empty_home, StoreState, sizes_of, demand, opened, with_block, made_in}
use Rattle.cyc_store.specs.Table.{row_at}
use Rattle.cyc_store.specs.declared.change.Change.TheVariants.{Stocked}
use Rattle.cyc_store.specs.declared.row.ClassSlots.{ClassSlots}
use Rattle.cyc_store.specs.inside.Kept.{handle_of_page}
use Rattle.cyc_store.proofs.KeptMaking.{newest-is, filled-is}
use Rattle.cyc_store.proofs.LookupLemmas.{IsPart-without, lookup-there, lookup-part, lookup-append_new, lookup-append_other, lookup-changed_same, lookup-changed_other}
use Rattle.cyc_store.proofs.PagedClosing.{paged-closed}
use Rattle.cyc_store.proofs.PagedOpening.{demand-more}
use Rattle.cyc_store.proofs.PageServices.{pages-mark, mark-made, mark-stays, mark-goes, demand-stays, demand-grows}
use Rattle.cyc_store.proofs.SlotStock.{with_page-demand}
use Rattle.cyc_store.proofs.TieClosing.{one-all}
use Rattle.cyc_pagestore.specs.inside.Stored.{IsStored}
use Rattle.cyc_pagestore.specs.inside.Table.{TableState, row_of, Takes}
use Rattle.cyc_pagestore.specs.inside.Usage.{Counts, IsUsage}
use Rattle.cyc_pagestore.proofs.Taking.{stored-few}
use Rattle.cyc_pagestore.proofs.Storing.{root-inside}

-- If the handles of a list of regions are distinct, then no region before the last one has the last one's handle.
fresh-last : (rs : List Home) (r : Home) → AreDistinct handle_of (rs ++ r ∷ []) → lookup handle_of rs r.handle ≡ None
fresh-last [] r distinct = refl
fresh-last (q ∷ rs) r distinct =
    let rest = fresh-last rs r distinct.1 in
    elim (cases_eq q.handle r.handle) [
      | inl same ↦ absurd (never_none_and_some (subst (λ n. lookup handle_of (rs ++ r ∷ []) n ≡ None) same distinct.0) (lookup-append_new handle_of rs r r.handle rest refl))
      | inr other ↦ lookup-there handle_of q rs r.handle other ∙ rest
    ]

-- In a new store, the counts of pages in use are right.
pub usage-new : (n m : ℕ) → m ≡ n → 1 ≤ n → (c : Blocks) → c ≡ no_blocks → IsUsage (record { regions = set (replicate n 0) 0 1; pages = 1 }) m c
usage-new n m is some c noted = subst (λ (b : Blocks). IsUsage (record { regions = set (replicate n 0) 0 1; pages = 1 }) m b) (sym noted) (record {
  all = length-set (replicate n 0) 0 1 ∙ (length-replicate n 0 ∙ sym is);
  pages = refl;
  regions = λ page r found. elim (cases_eq page 0) [
    | inl first ↦
        let heap : region_pages (sizes_of r.blocks) ≡ 1 = ap (λ (q : Home). region_pages (sizes_of q.blocks)) (sym (same_from_some (ap (λ p. lookup handle_of no_blocks.regions (handle_of_page p)) (sym first) ∙ found))) in
        ap (slice_index (set (replicate n 0) 0 1)) first ∙ (get_or-set_same (replicate n 0) 0 1 0 (subst (λ k. 0 < k) (sym (length-replicate n 0)) some) ∙ sym heap)
    | inr other ↦ absurd (never_none_and_some (lookup-append_other handle_of [] (empty_home 1 Sort.Heap) (handle_of_page page) (λ e. other (sym (same_from_odd 0 page e)))) found)
  ];
})

-- The tables of a store, together with its counts of pages in use.
module _ (x : TableState) (lexicals : List ℕ) (classes : List ClassSlots) (b : Blocks) (s : IsStored x lexicals classes b) (counts : Counts) (u : IsUsage counts x.most b) where
  abbrev held : StoreState
  held = store_of s.table.most s.table.words.items b

  pub taken-there : (m : TableState) (page : ℕ) → Takes x m page → page < length counts.regions
  taken-there m page takes = subst (λ n. page < n) (s.whole ∙ sym u.all) (one-all (λ q. q < length x.rows) takes.order page takes.within takes.inside)

  -- The counts of pages in use stay right if the regions and the pages of the size classes are unchanged.
  pub usage-same : (most : ℕ) → most ≡ x.most → (c : Blocks) → c.regions ≡ b.regions → c.classes ≡ b.classes → IsUsage counts most c
  usage-same most is c regions cells = record {
    all = u.all ∙ sym is;
    pages = u.pages ∙ (λ j. demand (plain_store (record b { regions = sym regions j; classes = sym cells j })));
    regions = λ page r found. u.regions page r (ap (λ rs. lookup handle_of rs (handle_of_page page)) (sym regions) ∙ found);
  }

  -- ---- a region is opened
  module _ (y : TableState) (left : List ℕ) (c : Blocks) (t : IsStored y left classes c) (page : ℕ) (sort : Sort) (same : y.most ≡ x.most) (there : page < length counts.regions)
      (noted : c ≡ blocks_of (opened (plain_store b) (handle_of_page page) sort)) where
    abbrev home : Home
    home = empty_home (handle_of_page page) sort

    regions-are : c.regions ≡ b.regions ++ home ∷ []
    regions-are = ap (λ (d : Blocks). d.regions) noted

    grown : demand (plain_store c) ≡ suc (demand (plain_store b))
    grown = ap (λ (d : Blocks). demand (plain_store d)) noted ∙ demand-more b.regions (handle_of_page page) sort b.classes

    pub opened-few : counts.pages < 65536
    opened-few =
        let few : demand (plain_store c) ≤ t.table.most = t.kept.laid.sound.demand in
        let most = stored-few y left classes c t in let whole = t.whole in
        omega (arith, few, most, whole, grown, u.pages, t.reads.most)

    fresh : lookup handle_of b.regions (handle_of_page page) ≡ None
    fresh = fresh-last b.regions home (subst (AreDistinct handle_of) regions-are t.kept.laid.sound.regions.handles.1)

    pub usage-opened : IsUsage (record { regions = set counts.regions page 1; pages = counts.pages + 1 }) y.most c
    usage-opened = record {
      all = length-set counts.regions page 1 ∙ (u.all ∙ sym same);
      pages = omega (arith, u.pages, grown);
      regions = λ p r found.
          let last : lookup handle_of (b.regions ++ home ∷ []) (handle_of_page p) ≡ Some r = ap (λ rs. lookup handle_of rs (handle_of_page p)) (sym regions-are) ∙ found in
          elim (cases_eq p page) [
            | inl here ↦
                let is : home ≡ r = same_from_some (sym (lookup-append_new handle_of b.regions home (handle_of_page page) fresh refl) ∙ (ap (λ q. lookup handle_of (b.regions ++ home ∷ []) (handle_of_page q)) (sym here) ∙ last)) in
                ap (slice_index (set counts.regions page 1)) here
                ∙ (get_or-set_same counts.regions page 1 0 there ∙ ap (λ (q : Home). region_pages (sizes_of q.blocks)) is)
            | inr away ↦
                get_or-set_other counts.regions page p 1 0 away
                ∙ u.regions p r (sym (lookup-append_other handle_of b.regions home (handle_of_page p) (λ e. away (sym (same_from_odd page p e)))) ∙ last)
          ];
    }

  -- ---- a page is split into slots
  module _ (y : TableState) (left : List ℕ) (cells : List ClassSlots) (c : Blocks) (t : IsStored y left cells c) (class : ℕ) (bound : class ≤ greatest_class) (same : y.most ≡ x.most)
      (noted : c ≡ after b (Stocked class)) where
    more : demand (plain_store c) ≡ suc (demand (plain_store b))
    more = ap (λ (d : Blocks). demand (plain_store d)) noted ∙ with_page-demand held class s.kept.laid.sound bound

    pub cut-few : counts.pages < 65536
    cut-few =
        let few : demand (plain_store c) ≤ t.table.most = t.kept.laid.sound.demand in
        let most = stored-few y left cells c t in let whole = t.whole in
        omega (arith, few, most, whole, more, u.pages, t.reads.most)

    pub usage-cut : IsUsage (record counts { pages = counts.pages + 1 }) y.most c
    usage-cut = record {
      all = u.all ∙ sym same;
      pages = omega (arith, u.pages, more);
      regions = λ p r found. u.regions p r (ap (λ (d : Blocks). lookup handle_of d.regions (handle_of_page p)) (sym noted) ∙ found);
    }

  -- ---- an open region
  module _ (root : ℕ) (r : Home) (named : lookup handle_of b.regions (handle_of_page root) ≡ Some r) where
    abbrev h : ℕ
    h = handle_of_page root

    abbrev first : ℕ
    first = (row_of x root).newest

    pub counted-there : root < length counts.regions
    counted-there = subst (λ n. root < n) (sym u.all) (root-inside x lexicals classes b s root r named)

    chain : HasChain s.kept.layout.pages r
    chain = s.kept.laid.paged.chains h r named

    -- Closing a region lowers the number of pages in use by the number of the region's pages.
    closed-demand : counts.pages ≡ demand (plain_store (record b { regions = without handle_of b.regions h })) + slice_index counts.regions root
    closed-demand =
        let paged = s.kept.laid.paged in
        let closed = paged-closed held s.kept.layout.pages s.kept.layout.free h r s.kept.laid.sound paged named (λ e. omega (arith, e)) chain in
        let all = length-append (chain.newest.page ∷ chain.older) s.kept.layout.free in
        let own = u.regions root r named ∙ pages-mark r in
        sum counts.pages (demand held) (length s.kept.layout.free) (length ((chain.newest.page ∷ chain.older) ++ s.kept.layout.free)) (suc (length chain.older))
        (demand (plain_store (record b { regions = without handle_of b.regions h }))) (slice_index counts.regions root) s.table.most (mark_of r).pages
        u.pages paged.count closed.count all chain.many own
      where
        sum : (p d f g o e n m q : ℕ) → p ≡ d → f + d ≡ m → g + e ≡ m → g ≡ o + f → o ≡ q → n ≡ q → p ≡ e + n
        sum p d f g o e n m q one two three four five six = omega (arith, one, two, three, four, five, six)

    pub counted-some : slice_index counts.regions root ≤ counts.pages
    counted-some = least counts.pages (demand (plain_store (record b { regions = without handle_of b.regions h }))) (slice_index counts.regions root) closed-demand
      where
        least : (p e n : ℕ) → p ≡ e + n → n ≤ p
        least p e n is = omega (arith, is)

    pub usage-closed : (most : ℕ) → most ≡ x.most → (c : Blocks) → c ≡ record b { regions = without handle_of b.regions h } → IsUsage (record counts { pages = counts.pages - slice_index counts.regions root }) most c
    usage-closed most is c noted = subst (λ (d : Blocks). IsUsage (record counts { pages = counts.pages - slice_index counts.regions root }) most d) (sym noted) (record {
      all = u.all ∙ sym is;
      pages = rest counts.pages (demand (plain_store (record b { regions = without handle_of b.regions h }))) (slice_index counts.regions root) closed-demand;
      regions = λ p q found. u.regions p q (lookup-part handle_of (IsPart-without handle_of b.regions h) s.kept.laid.sound.regions.handles.1 (handle_of_page p) q found);
    })
      where
        rest : (p e n : ℕ) → p ≡ e + n → p - n ≡ e
        rest p e n is = omega (arith, is)

    -- ---- a block is allocated in a region
    mark-is : (row_of x first).filled ≡ (mark_of r).filled
    mark-is = ap (λ rs. (row_at rs (row_at rs root).newest).filled) (sym s.reads.rows)
        ∙ (ap (λ p. (row_at s.table.rows.items p).filled) (newest-is s.table lexicals classes b s.kept root r named) ∙ filled-is s.table lexicals classes b s.kept root r named)

    module _ (made : Block) (c : Blocks) (noted : c ≡ blocks_of (made_in (plain_store b) h made)) where
      -- After an allocation, the region with the given handle has the blocks that it had before, and the new block.
      found-here : (q : Home) → lookup handle_of c.regions h ≡ Some q → q ≡ with_block made r
      found-here q found = same_from_some (sym found ∙ (ap (λ (d : Blocks). lookup handle_of d.regions h) noted ∙ lookup-changed_same handle_of (with_block made) (λ z. refl) b.regions h r named))

      found-there : (p : ℕ) (q : Home) → (p ≡ root → ⊥) → lookup handle_of c.regions (handle_of_page p) ≡ Some q → lookup handle_of b.regions (handle_of_page p) ≡ Some q
      found-there p q away found =
          sym (lookup-changed_other handle_of (with_block made) (λ z. refl) b.regions h (handle_of_page p) (λ e. away (same_from_odd p root e)))
          ∙ (ap (λ (d : Blocks). lookup handle_of d.regions (handle_of_page p)) (sym noted) ∙ found)

      own-pages : (q : Home) (m : Mark) → q ≡ with_block made r → next_mark (mark_of r) made.size ≡ m → region_pages (sizes_of q.blocks) ≡ m.pages
      own-pages q m is next = ap (λ (z : Home). region_pages (sizes_of z.blocks)) is ∙ (pages-mark (with_block made r) ∙ ap (λ (k : Mark). k.pages) (mark-made r made ∙ next))

      pub usage-following : (most : ℕ) → most ≡ x.most → (row_of x first).filled + made.size ≤ 1024 → IsUsage counts most c
      usage-following most is fits =
          let room : (mark_of r).filled + made.size ≤ 1024 = subst (λ k. k + made.size ≤ 1024) mark-is fits in
          record {
            all = u.all ∙ sym is;
            pages = u.pages ∙ (sym (demand-stays held s.kept.layout.pages s.kept.layout.free s.kept.laid.paged h r named made room) ∙ ap (λ (d : Blocks). demand (plain_store d)) (sym noted));
            regions = λ p q found. elim (cases_eq p root) [
              | inl here ↦
                  let new = found-here q (ap (λ k. lookup handle_of c.regions (handle_of_page k)) (sym here) ∙ found) in
                  ap (slice_index counts.regions) here ∙ (u.regions root r named ∙ (pages-mark r ∙ sym (own-pages q _ new (mark-stays (mark_of r) made.size room))))
              | inr away ↦ u.regions p q (found-there p q away found)
            ];
          }

      module _ (past : 1024 < (row_of x first).filled + made.size) where
        beyond : 1024 < (mark_of r).filled + made.size
        beyond = subst (λ k. 1024 < k + made.size) mark-is past

        grew : demand (plain_store c) ≡ suc (demand (plain_store b))
        grew = ap (λ (d : Blocks). demand (plain_store d)) noted ∙ demand-grows held s.kept.layout.pages s.kept.layout.free s.kept.laid.paged h r named made beyond

        pub added-few : (y : TableState) (left : List ℕ) → IsStored y left classes c → counts.pages < 65536
        added-few y left t =
            let few : demand (plain_store c) ≤ t.table.most = t.kept.laid.sound.demand in
            let most = stored-few y left classes c t in let whole = t.whole in
            omega (arith, few, most, whole, grew, u.pages, t.reads.most)

        pub usage-added : (most : ℕ) → most ≡ x.most → IsUsage (record { regions = set counts.regions root (slice_index counts.regions root + 1); pages = counts.pages + 1 }) most c
        usage-added most is = record {
          all = length-set counts.regions root _ ∙ (u.all ∙ sym is);
          pages = omega (arith, u.pages, grew);
          regions = λ p q found. elim (cases_eq p root) [
            | inl here ↦
                let new = found-here q (ap (λ k. lookup handle_of c.regions (handle_of_page k)) (sym here) ∙ found) in
                ap (slice_index (set counts.regions root (slice_index counts.regions root + 1))) here
                ∙ (get_or-set_same counts.regions root (slice_index counts.regions root + 1) 0 counted-there
                ∙ one_more (slice_index counts.regions root) (mark_of r).pages (region_pages (sizes_of q.blocks)) (u.regions root r named ∙ pages-mark r) (own-pages q _ new (mark-goes (mark_of r) made.size beyond)))
            | inr away ↦ get_or-set_other counts.regions root p (slice_index counts.regions root + 1) 0 away ∙ u.regions p q (found-there p q away found)
          ];
        }
          where
            one_more : (n m k : ℕ) → n ≡ m → k ≡ suc m → n + 1 ≡ k
            one_more n m k was is = omega (arith, was, is)
