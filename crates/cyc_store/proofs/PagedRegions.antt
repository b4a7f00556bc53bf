-- If a block is allocated in a region, the store's blocks are still laid out in pages.
use Rattle.std.proofs.Common.{◌≡◌, ◌≢◌, ℕ, suc, ◌+◌, ◌*◌, ◌<◌, ◌≤◌, List, [], ◌∷◌, length, None, Some, refl, sym, ap, subst, ◌∙◌, inl, inr, arith}
use Rattle.std.specs.List.{AllByRecursion}
use Rattle.std.proofs.lemmas.Bool.{cases_eq}
use Rattle.cyc_words.proofs.Numbers.{zero_least, at_most_itself, when_equal}
use Rattle.cyc_words.proofs.Options.{same_from_some, never_none_and_some}
use Rattle.cyc_store.specs.State.{lookup, changed, Block, Uniques, Home, handle_of, StoreState, homes, demand, with_block, made_in}
use Rattle.cyc_store.specs.declared.range.TheConstants.{PAGE_WORDS, UNIQUE}
use Rattle.cyc_store.proofs.LookupLemmas.{when_other, lookup-key, lookup-changed_same, lookup-changed_other}
use Rattle.cyc_store.specs.Pages.{page_start, Pages, AreFilled, AreLaid, filled_to, drawn, Mark, mark_of, HasNewest, HasChain, IsFree, IsPaged}
use Rattle.cyc_store.proofs.PageLemmas.{laid-made, laid-drawn}
use Rattle.cyc_store.proofs.PageServices.{mark-made, mark-stays, mark-goes, demand-stays, demand-grows}

-- The block of `size` words that begins at a word of a page.
abbrev pub block_in_page : (page word size : ℕ) → Block
block_in_page page word size = record { address = page_start page + 4 * word; size = size }

pub frees-stay : (count : ℕ) (pages : Pages) (page words : ℕ) (free : List ℕ) → AllByRecursion (IsFree count pages) free
    → AllByRecursion (IsFree count (filled_to pages page words)) free
frees-stay count pages page words [] all = tt
frees-stay count pages page words (p ∷ free) all = (record { owner = all.0.owner; below = all.0.below }, frees-stay count pages page words free all.1)

pub frees-rest : (count : ℕ) (pages : Pages) (page h : ℕ) (free : List ℕ) → AllByRecursion (λ (p : ℕ). page ≢ p) free → AllByRecursion (IsFree count pages) free
    → AllByRecursion (IsFree count (drawn pages page h)) free
frees-rest count pages page h [] apart all = tt
frees-rest count pages page h (p ∷ free) apart all = (
  record {
    owner = when_other p page (Some h) (pages.owner p) (λ e. apart.0 (sym e)) ∙ all.0.owner;
    below = all.0.below;
  },
  frees-rest count pages page h free apart.1 all.1,
)

-- No page is filled past its end when a page's fill mark moves to at most the page's end.
pub still-filled : (pages : Pages) (page words : ℕ) → AreFilled pages → words ≤ PAGE_WORDS → AreFilled (filled_to pages page words)
still-filled pages page words full room other = elim (cases_eq other page) [
  | inl same ↦ subst (λ n. n ≤ PAGE_WORDS) (sym (when_equal other page words (pages.filled other) same)) room
  | inr away ↦ subst (λ n. n ≤ PAGE_WORDS) (sym (when_other other page words (pages.filled other) away)) (full other)
]

homes-made_in : (s : StoreState) (h : ℕ) (b : Block) → (h ≡ UNIQUE → ⊥) → changed handle_of (with_block b) (homes s) h ≡ homes (made_in s h b)
homes-made_in s h b other = when_other UNIQUE h
    (with_block b (record { handle = UNIQUE; sort = Uniques; blocks = s.unique }) ∷ s.regions)
    (record { handle = UNIQUE; sort = Uniques; blocks = s.unique } ∷ changed handle_of (with_block b) s.regions h)
    (λ e. other (sym e))

-- Moving the fill mark of another region's page preserves the page chain of a region, that is, the list of its pages.
abbrev pub chain-filled : (pages : Pages) (page words h : ℕ) (q : Home) → pages.owner page ≡ Some h → (q.handle ≡ h → ⊥) → HasChain pages q → HasChain (filled_to pages page words) q
chain-filled pages page words h q owned other chain = record {
  newest = record {
    page = chain.newest.page;
    owned = chain.newest.owned;
    mark =
        when_other chain.newest.page page words (pages.filled chain.newest.page)
        (λ e. other (same_from_some (sym chain.newest.owned ∙ (ap pages.owner e ∙ owned))))
        ∙ chain.newest.mark;
  };
  older = chain.older;
  owned = chain.owned;
  apart = chain.apart;
  many = chain.many;
}

-- The page chains (lists of pages) of all regions are preserved when a page's fill mark moves and its region gets one more block.
chains-made : (pages : Pages) (rs : List Home) (h page words : ℕ) (r : Home) (b : Block) → lookup handle_of rs h ≡ Some r
    → pages.owner page ≡ Some h → HasChain (filled_to pages page words) (with_block b r)
    → ((g : ℕ) (q : Home) → (g ≡ h → ⊥) → lookup handle_of rs g ≡ Some q → HasChain pages q)
    → (g : ℕ) (q : Home) → lookup handle_of (changed handle_of (with_block b) rs h) g ≡ Some q → HasChain (filled_to pages page words) q
chains-made pages rs h page words r b named owned new others g q found = elim (cases_eq g h) [
  | inl same ↦
      let now : lookup handle_of (changed handle_of (with_block b) rs h) h ≡ Some (with_block b r) =
      lookup-changed_same handle_of (with_block b) (λ z. refl) rs h r named in
      let made : with_block b r ≡ q = same_from_some (sym now ∙ (ap (λ n. lookup handle_of (changed handle_of (with_block b) rs h) n) (sym same) ∙ found)) in
      subst (HasChain (filled_to pages page words)) made new
  | inr other ↦
      let old : lookup handle_of rs g ≡ Some q = sym (lookup-changed_other handle_of (with_block b) (λ z. refl) rs h g other) ∙ found in
      chain-filled pages page words h q owned (λ e. other (sym (lookup-key handle_of rs g q old) ∙ e)) (others g q other old)
]

-- A free page is not the newest page of any region, so taking it preserves the newest pages.
abbrev pub still-newest : (pages : Pages) (page h : ℕ) → pages.owner page ≡ None → (q : Home) → HasNewest pages q → HasNewest (drawn pages page h) q
still-newest pages page h free q newest = record {
  page = newest.page;
  owned = when_other newest.page page (Some h) (pages.owner newest.page) other ∙ newest.owned;
  mark = when_other newest.page page 0 (pages.filled newest.page) other ∙ newest.mark;
}
  where
    other : newest.page ≡ page → ⊥
    other e = never_none_and_some free (ap pages.owner (sym e) ∙ newest.owned)

pub owned-drawn : (pages : Pages) (page h g : ℕ) → pages.owner page ≡ None → (older : List ℕ) → AllByRecursion (λ (p : ℕ). pages.owner p ≡ Some g) older
    → AllByRecursion (λ (p : ℕ). (drawn pages page h).owner p ≡ Some g) older
owned-drawn pages page h g free [] all = tt
owned-drawn pages page h g free (p ∷ older) all =
    (when_other p page (Some h) (pages.owner p) (λ e. never_none_and_some free (ap pages.owner (sym e) ∙ all.0)) ∙ all.0, owned-drawn pages page h g free older all.1)

-- A free page is in no region's page chain.
pub free-apart : (pages : Pages) (page g : ℕ) → pages.owner page ≡ None → (older : List ℕ) → AllByRecursion (λ (p : ℕ). pages.owner p ≡ Some g) older
    → AllByRecursion (λ (p : ℕ). page ≢ p) older
free-apart pages page g free [] all = tt
free-apart pages page g free (p ∷ older) all = (λ e. never_none_and_some free (ap pages.owner e ∙ all.0), free-apart pages page g free older all.1)

abbrev pub still-chained : (pages : Pages) (page h : ℕ) → pages.owner page ≡ None → (q : Home) → HasChain pages q → HasChain (drawn pages page h) q
still-chained pages page h free q chain = record {
  newest = still-newest pages page h free q chain.newest;
  older = chain.older;
  owned = owned-drawn pages page h q.handle free chain.older chain.owned;
  apart = chain.apart;
  many = chain.many;
}

module _ (s : StoreState) (pages : Pages) (h : ℕ) (r : Home) (named : lookup handle_of s.regions h ≡ Some r) (ordinary : h ≡ UNIQUE → ⊥) (size : ℕ) (some : 0 < size) where
  -- If a block is allocated in its region's newest page, the store's blocks are still laid out in pages.
  pub paged-stays : (free : List ℕ) → IsPaged s pages free → (chain : HasChain pages r) → (mark_of r).filled + size ≤ PAGE_WORDS
      → IsPaged (made_in s h (block_in_page chain.newest.page (mark_of r).filled size)) (filled_to pages chain.newest.page ((mark_of r).filled + size)) free
  paged-stays free paged chain room = record {
    laid = subst (AreLaid (filled_to pages chain.newest.page ((mark_of r).filled + size)))
        (homes-made_in s h (block_in_page chain.newest.page (mark_of r).filled size) ordinary)
        (laid-made pages (homes s) chain.newest.page h (mark_of r).filled size owned
        (subst (λ n. n ≤ (mark_of r).filled) (sym chain.newest.mark) (at_most_itself (mark_of r).filled)) some paged.laid);
    filled = still-filled pages chain.newest.page ((mark_of r).filled + size) paged.filled room;
    below = paged.below;
    unowned = frees-stay s.pages pages chain.newest.page ((mark_of r).filled + size) free paged.unowned;
    apart = paged.apart;
    count =
        ap (λ n. length free + n) (demand-stays s pages free paged h r named (block_in_page chain.newest.page (mark_of r).filled size) room)
        ∙ paged.count;
    chains = chains-made pages s.regions h chain.newest.page ((mark_of r).filled + size) r (block_in_page chain.newest.page (mark_of r).filled size) named owned
        (record {
          newest = record {
            page = chain.newest.page;
            owned = chain.newest.owned;
            mark =
                when_equal chain.newest.page chain.newest.page ((mark_of r).filled + size) (pages.filled chain.newest.page) refl
                ∙ sym (ap (λ (m : Mark). m.filled) moves);
          };
          older = chain.older;
          owned = chain.owned;
          apart = chain.apart;
          many = chain.many ∙ sym (ap (λ (m : Mark). m.pages) moves);
        })
        (λ g q _ found. paged.chains g q found);
  }
    where
      owned : pages.owner chain.newest.page ≡ Some h
      owned = chain.newest.owned ∙ ap (λ n. Some n) (lookup-key handle_of s.regions h r named)

      moves : mark_of (with_block (block_in_page chain.newest.page (mark_of r).filled size) r) ≡ record { pages = (mark_of r).pages; filled = (mark_of r).filled + size }
      moves = mark-made r (block_in_page chain.newest.page (mark_of r).filled size) ∙ mark-stays (mark_of r) size room

  -- If a block is allocated at the start of a new page, the store's blocks are still laid out in pages.
  pub paged-draws : (page : ℕ) (free : List ℕ) → IsPaged s pages (page ∷ free) → PAGE_WORDS < (mark_of r).filled + size → size ≤ PAGE_WORDS
      → IsPaged (made_in s h (block_in_page page 0 size)) (filled_to (drawn pages page h) page (0 + size)) free
  paged-draws page free paged past room = record {
    laid = subst (AreLaid (filled_to (drawn pages page h) page (0 + size)))
        (homes-made_in s h (block_in_page page 0 size) ordinary)
        (laid-made (drawn pages page h) (homes s) page h 0 size owned
        (subst (λ n. n ≤ 0) (sym (when_equal page page 0 (pages.filled page) refl)) (at_most_itself 0)) some
        (laid-drawn pages page h (homes s) paged.unowned.0.owner paged.laid));
    filled = still-filled (drawn pages page h) page (0 + size) (still-filled pages page 0 paged.filled (zero_least PAGE_WORDS)) (from_zero size PAGE_WORDS room);
    below = λ p g is. elim (cases_eq p page) [
      | inl same ↦ subst (λ n. n < s.pages) (sym same) paged.unowned.0.below
      | inr other ↦ paged.below p g (sym (when_other p page (Some h) (pages.owner p) other) ∙ is)
    ];
    unowned = frees-stay s.pages (drawn pages page h) page (0 + size) free (frees-rest s.pages pages page h free paged.apart.0 paged.unowned.1);
    apart = paged.apart.1;
    count = one_less (length free) (demand s) s.pages (demand (made_in s h (block_in_page page 0 size))) paged.count
        (demand-grows s pages (page ∷ free) paged h r named (block_in_page page 0 size) past);
    chains = chains-made (drawn pages page h) s.regions h page (0 + size) r (block_in_page page 0 size) named owned
        (record {
          newest = record {
            page = page;
            owned = owned ∙ ap (λ n. Some n) (sym (lookup-key handle_of s.regions h r named));
            mark = when_equal page page (0 + size) ((drawn pages page h).filled page) refl ∙ (plain size ∙ sym (ap (λ (m : Mark). m.filled) moves));
          };
          older = old.newest.page ∷ old.older;
          owned = owned-drawn pages page h r.handle paged.unowned.0.owner (old.newest.page ∷ old.older) (old.newest.owned, old.owned);
          apart = (free-apart pages page r.handle paged.unowned.0.owner (old.newest.page ∷ old.older) (old.newest.owned, old.owned), old.apart);
          many = ap suc old.many ∙ sym (ap (λ (m : Mark). m.pages) moves);
        })
        (λ g q _ found. still-chained pages page h paged.unowned.0.owner q (paged.chains g q found));
  }
    where
      owned : (drawn pages page h).owner page ≡ Some h
      owned = when_equal page page (Some h) (pages.owner page) refl

      from_zero : (n m : ℕ) → n ≤ m → 0 + n ≤ m
      from_zero n m e = omega (arith, e)

      plain : (n : ℕ) → 0 + n ≡ n
      plain n = omega arith

      one_less : (n d p e : ℕ) → suc n + d ≡ p → e ≡ suc d → n + e ≡ p
      one_less n d p e count grows = omega (arith, count, grows)

      old : HasChain pages r
      old = paged.chains h r named

      moves : mark_of (with_block (block_in_page page 0 size) r) ≡ record { pages = suc (mark_of r).pages; filled = size }
      moves = mark-made r (block_in_page page 0 size) ∙ mark-goes (mark_of r) size past
