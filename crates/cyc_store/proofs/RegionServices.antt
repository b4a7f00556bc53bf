-- If a region is opened or closed, or a block is allocated in it, the store's blocks are still laid out in pages.
use Rattle.std.proofs.Common.{◌≡◌, ◌≢◌, ℕ, ◌+◌, ◌*◌, ◌<◌, ◌≤◌, true, List, [], ◌∷◌, ◌++◌, length, Option, None, Some, refl, sym, ap, subst, ◌∙◌, inl, inr, arith}
use Rattle.std.specs.Prelude.{◌⊎◌}
use Rattle.std.specs.List.{AllByRecursion}
use Rattle.std.proofs.lemmas.Bool.{cases_eq, cases_lt}
use Rattle.cyc_words.specs.Distinct.{IsDistinct}
use Rattle.cyc_words.proofs.Numbers.{when_equal}
use Rattle.cyc_words.proofs.Lists.{length-insert}
use Rattle.cyc_words.proofs.Options.{never_none_and_some, same_from_some}
use Rattle.cyc_store.specs.State.{lookup, without, changed, Memory, Block, address_of, Sort, Home, handle_of, empty_home, StoreState, covers, block_in, block_at, demand, opened, with_block, made_in}
use Rattle.cyc_store.specs.Soundness.{IsSound}
use Rattle.cyc_store.specs.declared.range.TheConstants.{STORE_BASE, PAGE_WORDS, UNIQUE}
use Rattle.cyc_store.proofs.LookupLemmas.{when_other, lookup-key, lookup-append, lookup-append_new, lookup-changed_same, lookup-changed_other, lookup-without_other}
use Rattle.cyc_store.proofs.HolderLemmas.{covers_from}
use Rattle.cyc_store.specs.Pages.{Pages, filled_to, drawn, owner_without, given_back, mark_of, HasChain, IsFree, IsPaged}
use Rattle.cyc_store.proofs.PagedRegions.{block_in_page, paged-stays, paged-draws}
use Rattle.cyc_store.proofs.PagedOpening.{paged-opened}
use Rattle.cyc_store.proofs.PagedClosing.{owner-kept, owner-stays, paged-closed}
use Rattle.cyc_store.specs.Slots.{place_of, Layout, IsSlot, IsLiveSlot, IsDeadSlot, AreSlots, IsCovered, IsLaidOut}

-- ---- facts that do not depend on the words

pub paged-memory : (s : StoreState) (pages : Pages) (free : List ℕ) (memory : Memory) → IsPaged s pages free → IsPaged (record s { memory = memory }) pages free
paged-memory s pages free memory paged = record {
  laid = paged.laid;
  filled = paged.filled;
  below = paged.below;
  unowned = paged.unowned;
  apart = paged.apart;
  count = paged.count;
  chains = paged.chains;
}

-- ---- slots when the pages of regions change

pub slots-moved : (unique : List Block) (classes : List ℕ) (l : Layout) (pages : Pages) (free : List ℕ) → AreSlots unique classes l
    → ((p : ℕ) → l.pages.owner p ≡ Some UNIQUE → pages.owner p ≡ Some UNIQUE) → ((p : ℕ) → pages.owner p ≡ Some UNIQUE → l.pages.owner p ≡ Some UNIQUE)
    → ((p : ℕ) → l.pages.owner p ≡ Some UNIQUE → pages.filled p ≡ PAGE_WORDS) → AreSlots unique classes (record l { pages = pages; free = free })
slots-moved unique classes l pages free slots stays back whole = record {
  bound = λ p owned. slots.bound p (back p owned);
  whole = λ p owned. whole p (back p owned);
  live = λ first b there.
      let old : IsLiveSlot l.pages.owner l.class b = slots.live first b there in
      record { class = old.class; word = old.word; slot = moved old.class old.word old.slot; is = old.is };
  dead = λ c bound. all-moved c (l.dead c) (slots.dead c bound);
  apart = slots.apart;
  count = slots.count;
}
  where
    moved : (c w : ℕ) → IsSlot l.pages.owner l.class c w → IsSlot pages.owner l.class c w
    moved c w slot = record { page = slot.page; number = slot.number; owned = stays slot.page slot.owned; same = slot.same; at = slot.at; fits = slot.fits }

    all-moved : (c : ℕ) (words : List ℕ) → AllByRecursion (IsDeadSlot unique l.pages.owner l.class c) words → AllByRecursion (IsDeadSlot unique pages.owner l.class c) words
    all-moved c [] all = tt
    all-moved c (w ∷ words) all = (record { slot = moved c w all.0.slot; none = all.0.none }, all-moved c words all.1)

-- Taking a free page for a region preserves the slots of unique blocks.
slots-drawn : (unique : List Block) (classes : List ℕ) (l : Layout) (page h : ℕ) (free : List ℕ) → l.pages.owner page ≡ None → (h ≡ UNIQUE → ⊥)
    → AreSlots unique classes l → AreSlots unique classes (record l { pages = drawn l.pages page h; free = free })
slots-drawn unique classes l page h free none ordinary slots = slots-moved unique classes l (drawn l.pages page h) free slots
    (λ p owned. when_other p page (Some h) (l.pages.owner p) (other p owned) ∙ owned)
    (λ p owned. elim (cases_eq p page) [
      | inl here ↦ absurd (ordinary (same_from_some (sym (when_equal p page (Some h) (l.pages.owner p) here) ∙ owned)))
      | inr away ↦ sym (when_other p page (Some h) (l.pages.owner p) away) ∙ owned
    ])
    (λ p owned. when_other p page 0 (l.pages.filled p) (other p owned) ∙ slots.whole p owned)
  where
    other : (p : ℕ) → l.pages.owner p ≡ Some UNIQUE → p ≡ page → ⊥
    other p owned e = never_none_and_some none (ap l.pages.owner (sym e) ∙ owned)

-- If more words of a region's page are filled, the slots of unique blocks stay correctly laid out.
slots-filled : (unique : List Block) (classes : List ℕ) (l : Layout) (page h words : ℕ) → l.pages.owner page ≡ Some h → (h ≡ UNIQUE → ⊥)
    → AreSlots unique classes l → AreSlots unique classes (record l { pages = filled_to l.pages page words })
slots-filled unique classes l page h words owner ordinary slots = slots-moved unique classes l (filled_to l.pages page words) l.free slots
    (λ p owned. owned) (λ p owned. owned)
    (λ p owned. when_other p page words (l.pages.filled p) (λ e. ordinary (same_from_some (sym owner ∙ (ap l.pages.owner (sym e) ∙ owned)))) ∙ slots.whole p owned)

-- ---- opening a region

covered-append : (rs qs : List Home) (h x : ℕ) → IsCovered rs h x → IsCovered (rs ++ qs) h x
covered-append rs qs h x old = record { block = old.block; at = found (lookup handle_of rs h) refl old.at; inside = old.inside }
  where
    found : (o : Option Home) → lookup handle_of rs h ≡ o → block_in o old.block.address ≡ Some old.block → block_at (rs ++ qs) h old.block.address ≡ Some old.block
    found None is at = absurd (let e : None ≡ Some old.block = at in cc)
    found (Some r) is at = ap (λ o. block_in o old.block.address) (lookup-append handle_of rs qs h r is) ∙ at

pub opened-laid : (s : StoreState) (l : Layout) (page : ℕ) (rest : List ℕ) (h : ℕ) (sort : Sort) (memory : Memory) → IsLaidOut s l → l.free ≡ page ∷ rest
    → (h ≡ UNIQUE → ⊥) → IsSound (record (opened s h sort) { memory = memory })
    → IsLaidOut (record (opened s h sort) { memory = memory }) (record l { pages = drawn l.pages page h; free = rest })
opened-laid s l page rest h sort memory laid next ordinary sound = record {
  sound = sound;
  paged = paged-memory (opened s h sort) (drawn l.pages page h) rest memory (paged-opened s l.pages page rest h sort paged);
  covered = λ p word g owned other below. elim (cases_eq p page) [
    | inl here ↦ absurd (none-below word (subst (λ n. word < n) (when_equal p page 0 (l.pages.filled p) here) below))
    | inr away ↦ covered-append s.regions (empty_home h sort ∷ []) g (place_of (PAGE_WORDS * p + word))
        (laid.covered p word g (sym (when_other p page (Some h) (l.pages.owner p) away) ∙ owned) other (subst (λ n. word < n) (when_other p page 0 (l.pages.filled p) away) below))
  ];
  slots = slots-drawn s.unique s.classes l page h rest paged.unowned.0.owner ordinary laid.slots;
}
  where
    paged : IsPaged s l.pages (page ∷ rest)
    paged = subst (IsPaged s l.pages) next laid.paged

    none-below : (n : ℕ) → n < 0 → ⊥
    none-below n less = omega (arith, less)

-- ---- allocating a block in a region

module _ (rs : List Home) (h : ℕ) (r : Home) (named : lookup handle_of rs h ≡ Some r) (b : Block) where
  block-appended : (bs : List Block) (a : ℕ) (c : Block) → lookup address_of bs a ≡ Some c → lookup address_of (bs ++ b ∷ []) a ≡ Some c
  block-appended bs a c found = lookup-append address_of bs (b ∷ []) a c found

  covered-changed : (g x : ℕ) → IsCovered rs g x → IsCovered (changed handle_of (with_block b) rs h) g x
  covered-changed g x old = record { block = old.block; at = by (cases_eq g h); inside = old.inside }
    where
      by : (g ≡ h) ⊎ (g ≡ h → ⊥) → block_at (changed handle_of (with_block b) rs h) g old.block.address ≡ Some old.block
      by (inl same) =
          ap (λ o. block_in o old.block.address) (ap (lookup handle_of (changed handle_of (with_block b) rs h)) same ∙ lookup-changed_same handle_of (with_block b) (λ z. refl) rs h r named)
          ∙ block-appended r.blocks old.block.address old.block (sym (ap (λ o. block_in o old.block.address) (ap (lookup handle_of rs) same ∙ named)) ∙ old.at)
      by (inr other) = ap (λ o. block_in o old.block.address) (lookup-changed_other handle_of (with_block b) (λ z. refl) rs h g other) ∙ old.at

  covered-new : (x : ℕ) → lookup address_of r.blocks b.address ≡ None → covers b x ≡ true → IsCovered (changed handle_of (with_block b) rs h) h x
  covered-new x fresh inside = record {
    block = b;
    at =
        ap (λ o. block_in o b.address) (lookup-changed_same handle_of (with_block b) (λ z. refl) rs h r named)
        ∙ lookup-append_new address_of r.blocks b b.address fresh refl;
    inside = inside;
  }

-- A block in a page covers the addresses of its words.
block-covers : (page word size u : ℕ) → word ≤ u → u < word + size → covers (block_in_page page word size) (place_of (PAGE_WORDS * page + u)) ≡ true
block-covers page word size u low high = covers_from (block_in_page page word size) (place_of (PAGE_WORDS * page + u))
    (above STORE_BASE page word u low) (below STORE_BASE page word size u high)
  where
    above : (base p w u : ℕ) → w ≤ u → base + 4 * (1024 * p) + 4 * w ≤ base + 4 * (1024 * p + u)
    above base p w u e = omega (arith, e)

    below : (base p w n u : ℕ) → u < w + n → base + 4 * (1024 * p + u) < base + 4 * (1024 * p) + 4 * w + 4 * n
    below base p w n u e = omega (arith, e)

module _ (s : StoreState) (l : Layout) (laid : IsLaidOut s l) (h : ℕ) (r : Home) (named : lookup handle_of s.regions h ≡ Some r) (ordinary : h ≡ UNIQUE → ⊥)
    (size : ℕ) (some : 0 < size) (memory : Memory) where
  -- If a block is allocated in its region's newest page, the store's blocks, including unique blocks, are still laid out in pages.
  pub stays-laid : (chain : HasChain l.pages r) → (mark_of r).filled + size ≤ PAGE_WORDS
      → lookup address_of r.blocks (block_in_page chain.newest.page (mark_of r).filled size).address ≡ None
      → IsSound (record (made_in s h (block_in_page chain.newest.page (mark_of r).filled size)) { memory = memory })
      → IsLaidOut (record (made_in s h (block_in_page chain.newest.page (mark_of r).filled size)) { memory = memory })
      (record l { pages = filled_to l.pages chain.newest.page ((mark_of r).filled + size) })
  stays-laid chain room fresh sound = record {
    sound = sound;
    paged = paged-memory (made_in s h (block_in_page chain.newest.page (mark_of r).filled size)) (filled_to l.pages chain.newest.page ((mark_of r).filled + size)) l.free memory
        (paged-stays s l.pages h r named ordinary size some l.free laid.paged chain room);
    covered = λ p word g owned other below. elim (cases_eq p chain.newest.page) [
      | inl here ↦ here-covered p word g here owned other (subst (λ n. word < n) (when_equal p chain.newest.page ((mark_of r).filled + size) (l.pages.filled p) here) below)
      | inr away ↦ covered-changed s.regions h r named (block_in_page chain.newest.page (mark_of r).filled size) g (place_of (PAGE_WORDS * p + word))
          (laid.covered p word g owned other (subst (λ n. word < n) (when_other p chain.newest.page ((mark_of r).filled + size) (l.pages.filled p) away) below))
    ];
    slots = slots-filled s.unique s.classes l chain.newest.page h ((mark_of r).filled + size) owner ordinary laid.slots;
  }
    where
      owner : l.pages.owner chain.newest.page ≡ Some h
      owner = chain.newest.owned ∙ ap (λ n. Some n) (lookup-key handle_of s.regions h r named)

      here-covered : (p word g : ℕ) → p ≡ chain.newest.page → l.pages.owner p ≡ Some g → (g ≡ UNIQUE → ⊥) → word < (mark_of r).filled + size
          → IsCovered (changed handle_of (with_block (block_in_page chain.newest.page (mark_of r).filled size)) s.regions h) g (place_of (PAGE_WORDS * p + word))
      here-covered p word g here owned other below = elim (cases_lt word (mark_of r).filled) [
        | inl old ↦ covered-changed s.regions h r named (block_in_page chain.newest.page (mark_of r).filled size) g (place_of (PAGE_WORDS * p + word))
            (laid.covered p word g owned other (subst (λ n. word < n) (sym (ap l.pages.filled here ∙ chain.newest.mark)) old))
        | inr past ↦
            let same : g ≡ h = same_from_some (sym owned ∙ (ap l.pages.owner here ∙ owner)) in
            subst (λ n. IsCovered (changed handle_of (with_block (block_in_page chain.newest.page (mark_of r).filled size)) s.regions h) n (place_of (PAGE_WORDS * p + word))) (sym same)
            (covered-new s.regions h r named (block_in_page chain.newest.page (mark_of r).filled size) (place_of (PAGE_WORDS * p + word)) fresh
            (subst (λ n. covers (block_in_page chain.newest.page (mark_of r).filled size) (place_of (PAGE_WORDS * n + word)) ≡ true) (sym here)
            (block-covers chain.newest.page (mark_of r).filled size word past below)))
      ]

  -- If a block is allocated at the start of a new page, the store's blocks, including unique blocks, are still laid out in pages.
  pub draws-laid : (page : ℕ) (rest : List ℕ) → l.free ≡ page ∷ rest → PAGE_WORDS < (mark_of r).filled + size → size ≤ PAGE_WORDS
      → lookup address_of r.blocks (block_in_page page 0 size).address ≡ None
      → IsSound (record (made_in s h (block_in_page page 0 size)) { memory = memory })
      → IsLaidOut (record (made_in s h (block_in_page page 0 size)) { memory = memory })
      (record l { pages = filled_to (drawn l.pages page h) page (0 + size); free = rest })
  draws-laid page rest next past room fresh sound = record {
    sound = sound;
    paged = paged-memory (made_in s h (block_in_page page 0 size)) (filled_to (drawn l.pages page h) page (0 + size)) rest memory
        (paged-draws s l.pages h r named ordinary size some page rest paged past room);
    covered = λ p word g owned other below. elim (cases_eq p page) [
      | inl here ↦
          let same : g ≡ h = same_from_some (sym owned ∙ when_equal p page (Some h) (l.pages.owner p) here) in
          subst (λ n. IsCovered (changed handle_of (with_block (block_in_page page 0 size)) s.regions h) n (place_of (PAGE_WORDS * p + word))) (sym same)
          (covered-new s.regions h r named (block_in_page page 0 size) (place_of (PAGE_WORDS * p + word)) fresh
          (subst (λ n. covers (block_in_page page 0 size) (place_of (PAGE_WORDS * n + word)) ≡ true) (sym here)
          (block-covers page 0 size word (least word) (subst (λ n. word < n) (when_equal p page (0 + size) ((drawn l.pages page h).filled p) here) below))))
      | inr away ↦ covered-changed s.regions h r named (block_in_page page 0 size) g (place_of (PAGE_WORDS * p + word))
          (laid.covered p word g (sym (when_other p page (Some h) (l.pages.owner p) away) ∙ owned) other
          (subst (λ n. word < n) (when_other p page (0 + size) ((drawn l.pages page h).filled p) away ∙ when_other p page 0 (l.pages.filled p) away) below))
    ];
    slots = slots-filled s.unique s.classes (record l { pages = drawn l.pages page h; free = rest }) page h (0 + size)
        (when_equal page page (Some h) (l.pages.owner page) refl) ordinary
        (slots-drawn s.unique s.classes l page h rest paged.unowned.0.owner ordinary laid.slots);
  }
    where
      paged : IsPaged s l.pages (page ∷ rest)
      paged = subst (IsPaged s l.pages) next laid.paged

      least : (n : ℕ) → 0 ≤ n
      least n = omega arith

-- ---- closing a region

-- The list of free pages, after the pages in a region's list of pages are put before it in reverse order.
abbrev pub moved : (chain free : List ℕ) → List ℕ
moved [] free = free
moved (page ∷ chain) free = moved chain (page ∷ free)

module _ (P : ℕ → Type 0) where
  all-insert : (x : ℕ) (xs ys : List ℕ) → P x → AllByRecursion P (xs ++ ys) → AllByRecursion P (xs ++ x ∷ ys)
  all-insert x [] ys this all = (this, all)
  all-insert x (y ∷ xs) ys this all = (all.0, all-insert x xs ys this all.1)

  pub all-moved : (xs ys : List ℕ) → AllByRecursion P (xs ++ ys) → AllByRecursion P (moved xs ys)
  all-moved [] ys all = all
  all-moved (x ∷ xs) ys all = all-moved xs (x ∷ ys) (all-insert x xs ys all.0 all.1)

distinct-insert : (x : ℕ) (xs ys : List ℕ) → AllByRecursion (λ y. x ≢ y) (xs ++ ys) → IsDistinct (xs ++ ys) → IsDistinct (xs ++ x ∷ ys)
distinct-insert x [] ys away distinct = (away, distinct)
distinct-insert x (y ∷ xs) ys away distinct =
    (all-insert (λ z. y ≢ z) x xs ys (λ e. away.0 (sym e)) distinct.0, distinct-insert x xs ys away.1 distinct.1)

pub distinct-moved : (xs ys : List ℕ) → IsDistinct (xs ++ ys) → IsDistinct (moved xs ys)
distinct-moved [] ys distinct = distinct
distinct-moved (x ∷ xs) ys distinct = distinct-moved xs (x ∷ ys) (distinct-insert x xs ys distinct.0 distinct.1)

length-moved : (xs ys : List ℕ) → length (moved xs ys) ≡ length (xs ++ ys)
length-moved [] ys = refl
length-moved (x ∷ xs) ys = length-moved xs (x ∷ ys) ∙ length-insert x xs ys

paged-moved : (s : StoreState) (pages : Pages) (chain free : List ℕ) → IsPaged s pages (chain ++ free) → IsPaged s pages (moved chain free)
paged-moved s pages chain free paged = record {
  laid = paged.laid;
  filled = paged.filled;
  below = paged.below;
  unowned = all-moved (IsFree s.pages pages) chain free paged.unowned;
  apart = distinct-moved chain free paged.apart;
  count = ap (λ n. n + demand s) (length-moved chain free) ∙ paged.count;
  chains = paged.chains;
}

covered-without : (rs : List Home) (gone g x : ℕ) → (g ≡ gone → ⊥) → IsCovered rs g x → IsCovered (without handle_of rs gone) g x
covered-without rs gone g x other old = record {
  block = old.block;
  at = ap (λ o. block_in o old.block.address) (lookup-without_other handle_of rs gone g other) ∙ old.at;
  inside = old.inside;
}

pub closed-laid : (s : StoreState) (l : Layout) (h : ℕ) (r : Home) (memory : Memory) → IsLaidOut s l → lookup handle_of s.regions h ≡ Some r → (h ≡ UNIQUE → ⊥)
    → (chain : HasChain l.pages r) → IsSound (record s { regions = without handle_of s.regions h; memory = memory })
    → IsLaidOut (record s { regions = without handle_of s.regions h; memory = memory })
    (record l { pages = given_back l.pages h; free = moved (chain.newest.page ∷ chain.older) l.free })
closed-laid s l h r memory laid named ordinary chain sound = record {
  sound = sound;
  paged = paged-memory (record s { regions = without handle_of s.regions h }) (given_back l.pages h) (moved (chain.newest.page ∷ chain.older) l.free) memory
      (paged-moved (record s { regions = without handle_of s.regions h }) (given_back l.pages h) (chain.newest.page ∷ chain.older) l.free
      (paged-closed s l.pages l.free h r laid.sound laid.paged named ordinary chain));
  covered = λ p word g owned other below.
      let old : l.pages.owner p ≡ Some g = owner-kept h g (l.pages.owner p) owned in
      covered-without s.regions h g (place_of (PAGE_WORDS * p + word)) (λ e. gone p (subst (λ n. (given_back l.pages h).owner p ≡ Some n) e owned))
      (laid.covered p word g old other below);
  slots = slots-moved s.unique s.classes l (given_back l.pages h) (moved (chain.newest.page ∷ chain.older) l.free) laid.slots
      (λ p owned. owner-stays h UNIQUE (l.pages.owner p) (λ e. ordinary (sym e)) owned)
      (λ p owned. owner-kept h UNIQUE (l.pages.owner p) owned)
      laid.slots.whole;
}
  where
    gone : (p : ℕ) → (given_back l.pages h).owner p ≡ Some h → ⊥
    gone p owned = never_none_and_some (owner-gone (l.pages.owner p) (owner-kept h h (l.pages.owner p) owned)) owned
      where
        owner-gone : (o : Option ℕ) → o ≡ Some h → owner_without h o ≡ None
        owner-gone o is = ap (owner_without h) is ∙ when_equal h h None (Some h) refl
