-- If a free page is cut into slots of a size class, the store's blocks are still laid out in pages.
use Rattle.std.proofs.Common.{◌≡◌, ◌≢◌, ℕ, zero, suc, ◌+◌, ◌*◌, ◌^◌, ◌<◌, ◌≤◌, List, [], ◌∷◌, length, None, Some, refl, sym, ap, subst, ◌∙◌, inl, inr, arith, length-set, get_or-set_same, get_or-set_other, zero-add}
use Rattle.std.specs.Prelude.{◌==◌, if◌then◌else◌, slice_index, set}
use Rattle.std.specs.List.{AllByRecursion}
use Rattle.std.proofs.Math.Nat.{mul-le-mul_right, suc-mul, div-mul-le_self}
use Rattle.std.proofs.lemmas.Bool.{cases_eq}
use Rattle.std.proofs.lemmas.Nat.{pow_pos}
use Rattle.cyc_words.specs.Demand.{page_words, greatest_class, blocks_in_page, pages_for}
use Rattle.cyc_words.specs.Distinct.{IsDistinct}
use Rattle.cyc_words.proofs.Numbers.{zero_least, when_equal}
use Rattle.cyc_words.proofs.Options.{none_or_some, never_none_and_some, same_from_some}
use Rattle.cyc_store.specs.State.{lookup, put, address_of, Home, handle_of, StoreState, homes, sizes_in, demand, live_in}
use Rattle.cyc_store.specs.Soundness.{IsSound}
use Rattle.cyc_store.specs.declared.range.TheConstants.{PAGE_WORDS, UNIQUE}
use Rattle.cyc_store.proofs.LookupLemmas.{when_other, lookup-key}
use Rattle.cyc_store.specs.Pages.{Pages, filled_to, drawn, HasChain, IsPaged}
use Rattle.cyc_store.proofs.PageLemmas.{laid-drawn, filled-stays, stays-all}
use Rattle.cyc_store.proofs.PagedRegions.{frees-stay, frees-rest, still-filled, chain-filled, still-chained}
use Rattle.cyc_store.specs.Slots.{with_page, slots_from, place_of, Layout, IsSlot, IsLiveSlot, IsDeadSlot, AreSlots, IsLaidOut}
use Rattle.cyc_store.proofs.SlotCounts.{demand-set}
use Rattle.cyc_store.proofs.SlotServices.{same-words}

pub slots-many : (size word count : ℕ) → length (slots_from size word count) ≡ count
slots-many size word zero = refl
slots-many size word (suc count) = ap suc (slots-many size (word + size) count)

slots-above : (size word count low : ℕ) → low < word → AllByRecursion (λ v. low ≢ v) (slots_from size word count)
slots-above size word zero low below = tt
slots-above size word (suc count) low below = (away low word below, slots-above size (word + size) count low (further low word size below))
  where
    away : (m n : ℕ) → m < n → m ≡ n → ⊥
    away m n less same = omega (arith, less, same)

    further : (m n k : ℕ) → m < n → m < n + k
    further m n k less = omega (arith, less)

slots-apart : (size word count : ℕ) → 0 < size → IsDistinct (slots_from size word count)
slots-apart size word zero some = tt
slots-apart size word (suc count) some = (slots-above size (word + size) count word (next word size some), slots-apart size (word + size) count some)
  where
    next : (n k : ℕ) → 0 < k → n < n + k
    next n k some = omega (arith, some)

-- ---- a page of a class

abbrev pub stocked_pages : Pages → (page : ℕ) → Pages
stocked_pages pages page = filled_to (drawn pages page UNIQUE) page PAGE_WORDS

-- the layout after a free page was cut into slots, all of which are empty
abbrev pub stocked : Layout → (page : ℕ) → (rest : List ℕ) → (class : ℕ) → Layout
stocked l page rest class = record {
  pages = stocked_pages l.pages page;
  free = rest;
  class = put l.class page class;
  dead = λ (other : ℕ). if other == class then slots_from (2 ^ class) (PAGE_WORDS * page) (blocks_in_page class) else l.dead other;
}

-- Cutting a page into slots raises the number of pages that the store needs by one.
pub with_page-demand : (s : StoreState) (c : ℕ) → IsSound s → c ≤ greatest_class → demand (with_page s c) ≡ suc (demand s)
with_page-demand s c sound bound = demand-set (sizes_in s.regions) s.classes c (within (length s.classes) c sound.classes bound)
  where
    within : (n c : ℕ) → n ≡ 11 → c ≤ 10 → c < n
    within n c is most = omega (arith, is, most)

module _ (s : StoreState) (l : Layout) (laid : IsLaidOut s l) (page : ℕ) (rest : List ℕ) (next : l.free ≡ page ∷ rest) (c : ℕ) (bound : c ≤ greatest_class)
    (none : l.dead c ≡ []) where
  paged : IsPaged s l.pages (page ∷ rest)
  paged = subst (IsPaged s l.pages) next laid.paged

  pub stock-sound : IsSound (with_page s c)
  stock-sound = record {
    regions = laid.sound.regions;
    uniques = laid.sound.uniques;
    words = laid.sound.words;
    classes = length-set s.classes c (suc (slice_index s.classes c)) ∙ laid.sound.classes;
    enough = λ d d_bound. elim (cases_eq d c) [
      | inl same ↦
          let old : pages_for c (live_in c s.unique) ≤ slice_index s.classes c = laid.sound.enough c bound in
          subst (λ n. pages_for n (live_in n s.unique) ≤ slice_index (set s.classes c (suc (slice_index s.classes c))) n) (sym same)
          (subst (λ m. pages_for c (live_in c s.unique) ≤ m) (sym (get_or-set_same s.classes c (suc (slice_index s.classes c)) 0 (within (length s.classes) c laid.sound.classes bound)))
          (omega (arith, old)))
      | inr other ↦ subst (λ m. pages_for d (live_in d s.unique) ≤ m) (sym (get_or-set_other s.classes c d (suc (slice_index s.classes c)) 0 other)) (laid.sound.enough d d_bound)
    ];
    demand = few (length rest) (demand s) s.pages _ paged.count (with_page-demand s c laid.sound bound);
  }
    where
      within : (n c : ℕ) → n ≡ 11 → c ≤ 10 → c < n
      within n c is most = omega (arith, is, most)

      few : (n d p e : ℕ) → suc n + d ≡ p → e ≡ suc d → e ≤ p
      few n d p e count grows = omega (arith, count, grows)

  stock-paged : IsPaged (with_page s c) (stocked_pages l.pages page) rest
  stock-paged = record {
    laid = stays-all (drawn l.pages page UNIQUE) (stocked_pages l.pages page) (homes s)
        (filled-stays (drawn l.pages page UNIQUE) page PAGE_WORDS (subst (λ n. n ≤ PAGE_WORDS) (sym (when_equal page page 0 (l.pages.filled page) refl)) (zero_least PAGE_WORDS)))
        (laid-drawn l.pages page UNIQUE (homes s) paged.unowned.0.owner paged.laid);
    filled = still-filled (drawn l.pages page UNIQUE) page PAGE_WORDS (still-filled l.pages page 0 paged.filled (zero_least PAGE_WORDS)) (same PAGE_WORDS);
    below = λ p g is. elim (cases_eq p page) [
      | inl here ↦ subst (λ n. n < s.pages) (sym here) paged.unowned.0.below
      | inr other ↦ paged.below p g (sym (when_other p page (Some UNIQUE) (l.pages.owner p) other) ∙ is)
    ];
    unowned = frees-stay s.pages (drawn l.pages page UNIQUE) page PAGE_WORDS rest (frees-rest s.pages l.pages page UNIQUE rest paged.apart.0 paged.unowned.1);
    apart = paged.apart.1;
    count = one_less (length rest) (demand s) s.pages _ paged.count (with_page-demand s c laid.sound bound);
    chains = λ h r named. refilled r (sym_ne h r named) (still-chained l.pages page UNIQUE paged.unowned.0.owner r (paged.chains h r named));
  }
    where
      same : (n : ℕ) → n ≤ n
      same n = omega arith

      one_less : (n d p e : ℕ) → suc n + d ≡ p → e ≡ suc d → n + e ≡ p
      one_less n d p e count grows = omega (arith, count, grows)

      sym_ne : (h : ℕ) (r : Home) → lookup handle_of s.regions h ≡ Some r → r.handle ≡ UNIQUE → ⊥
      sym_ne h r named e =
          never_none_and_some (subst (λ n. lookup handle_of s.regions n ≡ None) (sym e ∙ lookup-key handle_of s.regions h r named) laid.sound.regions.handles.0) named

      refilled : (r : Home) → (r.handle ≡ UNIQUE → ⊥) → HasChain (drawn l.pages page UNIQUE) r → HasChain (stocked_pages l.pages page) r
      refilled r ordinary chain = chain-filled (drawn l.pages page UNIQUE) page PAGE_WORDS UNIQUE r
          (when_equal page page (Some UNIQUE) (l.pages.owner page) refl) ordinary chain

  -- No live block begins in a page that was free.
  pub page-empty : (w u : ℕ) → w ≡ PAGE_WORDS * page + u → u < PAGE_WORDS → lookup address_of s.unique (place_of w) ≡ None
  page-empty w u is small = elim (none_or_some (lookup address_of s.unique (place_of w))) [
    | inl nothing ↦ nothing
    | inr (b, there) ↦
        let live : IsLiveSlot l.pages.owner l.class b = laid.slots.live (place_of w) b there in
        let words : live.word ≡ w = same-words live.word w (sym (ap address_of live.is) ∙ lookup-key address_of s.unique (place_of w) b there) in
        let pages : live.slot.page ≡ page = begins live.slot.page page (live.slot.number * 2 ^ live.class) u live.word w (2 ^ live.class) live.slot.at is words live.slot.fits (pow_pos live.class) small in
        absurd (never_none_and_some paged.unowned.0.owner (ap l.pages.owner (sym pages) ∙ live.slot.owned))
  ]
    where
      begins : (p q a u v w z : ℕ) → v ≡ 1024 * p + a → w ≡ 1024 * q + u → v ≡ w → a + z ≤ 1024 → 0 < z → u < 1024 → p ≡ q
      begins p q a u v w z v_is w_is same fits some small = omega (arith, v_is, w_is, same, fits, some, small)

  owner-new : (stocked l page rest c).pages.owner page ≡ Some UNIQUE
  owner-new = when_equal page page (Some UNIQUE) (l.pages.owner page) refl

  slot-stays : (d w : ℕ) → IsSlot l.pages.owner l.class d w → IsSlot (stocked l page rest c).pages.owner (stocked l page rest c).class d w
  slot-stays d w slot = record {
    page = slot.page;
    number = slot.number;
    owned = when_other slot.page page (Some UNIQUE) (l.pages.owner slot.page) other ∙ slot.owned;
    same = when_other slot.page page c (l.class slot.page) other ∙ slot.same;
    at = slot.at;
    fits = slot.fits;
  }
    where
      other : slot.page ≡ page → ⊥
      other e = never_none_and_some paged.unowned.0.owner (ap l.pages.owner (sym e) ∙ slot.owned)

  new-slots : (number count : ℕ) → number + count ≡ blocks_in_page c
      → AllByRecursion (IsDeadSlot s.unique (stocked l page rest c).pages.owner (stocked l page rest c).class c) (slots_from (2 ^ c) (PAGE_WORDS * page + number * 2 ^ c) count)
  new-slots number zero all = tt
  new-slots number (suc count) all = (
    record {
      slot = record {
        page = page;
        number = number;
        owned = owner-new;
        same = when_equal page page c (l.class page) refl;
        at = refl;
        fits = fits;
      };
      none = page-empty (PAGE_WORDS * page + number * 2 ^ c) (number * 2 ^ c) refl (below (number * 2 ^ c) (2 ^ c) PAGE_WORDS fits (pow_pos c));
    },
    subst (λ w. AllByRecursion (IsDeadSlot s.unique (stocked l page rest c).pages.owner (stocked l page rest c).class c) (slots_from (2 ^ c) w count))
        (further (PAGE_WORDS * page) (number * 2 ^ c) (2 ^ c) _ (suc-mul number (2 ^ c)))
        (new-slots (suc number) count (shift number count _ all)),
  )
    where
      below : (a z m : ℕ) → a + z ≤ m → 0 < z → a < m
      below a z m e some = omega (arith, e, some)

      shift : (a b n : ℕ) → a + suc b ≡ n → suc a + b ≡ n
      shift a b n e = omega (arith, e)

      further : (base a z n : ℕ) → n ≡ a + z → base + n ≡ base + a + z
      further base a z n e = omega (arith, e)

      last_in : (a z n m k : ℕ) → n ≡ a + z → n ≤ k → k ≤ m → a + z ≤ m
      last_in a z n m k e first second = omega (arith, e, first, second)

      fits : number * 2 ^ c + 2 ^ c ≤ PAGE_WORDS
      fits =
          let most : suc number * 2 ^ c ≤ blocks_in_page c * 2 ^ c = mul-le-mul_right (2 ^ c) (counted number count (blocks_in_page c) all) in
          let whole : blocks_in_page c * 2 ^ c ≤ page_words = div-mul-le_self page_words (2 ^ c) in
          last_in (number * 2 ^ c) (2 ^ c) (suc number * 2 ^ c) PAGE_WORDS (blocks_in_page c * 2 ^ c) (suc-mul number (2 ^ c)) most whole
        where
          counted : (a b n : ℕ) → a + suc b ≡ n → suc a ≤ n
          counted a b n e = omega (arith, e)

  still-dead : (d : ℕ) (words : List ℕ) → AllByRecursion (IsDeadSlot s.unique l.pages.owner l.class d) words
      → AllByRecursion (IsDeadSlot s.unique (stocked l page rest c).pages.owner (stocked l page rest c).class d) words
  still-dead d [] all = tt
  still-dead d (w ∷ words) all = (record { slot = slot-stays d w all.0.slot; none = all.0.none }, still-dead d words all.1)

  abbrev all : List ℕ
  all = slots_from (2 ^ c) (PAGE_WORDS * page) (blocks_in_page c)

  stock-slots : AreSlots s.unique (with_page s c).classes (stocked l page rest c)
  stock-slots = record {
    bound = λ p owned. elim (cases_eq p page) [
      | inl here ↦ subst (λ n. n ≤ greatest_class) (sym (when_equal p page c (l.class p) here)) bound
      | inr other ↦ subst (λ n. n ≤ greatest_class) (sym (when_other p page c (l.class p) other))
          (laid.slots.bound p (sym (when_other p page (Some UNIQUE) (l.pages.owner p) other) ∙ owned))
    ];
    whole = λ p owned. elim (cases_eq p page) [
      | inl here ↦ when_equal p page PAGE_WORDS ((drawn l.pages page UNIQUE).filled p) here
      | inr other ↦ when_other p page PAGE_WORDS ((drawn l.pages page UNIQUE).filled p) other
          ∙ (when_other p page 0 (l.pages.filled p) other ∙ laid.slots.whole p (sym (when_other p page (Some UNIQUE) (l.pages.owner p) other) ∙ owned))
    ];
    live = λ first b there.
        let old : IsLiveSlot l.pages.owner l.class b = laid.slots.live first b there in
        record { class = old.class; word = old.word; slot = slot-stays old.class old.word old.slot; is = old.is };
    dead = λ d d_bound. elim (cases_eq d c) [
      | inl same ↦ subst (AllByRecursion (IsDeadSlot s.unique (stocked l page rest c).pages.owner (stocked l page rest c).class d)) (sym (when_equal d c all (l.dead d) same))
          (subst (λ n. AllByRecursion (IsDeadSlot s.unique (stocked l page rest c).pages.owner (stocked l page rest c).class n) all) (sym same)
          (subst (λ w. AllByRecursion (IsDeadSlot s.unique (stocked l page rest c).pages.owner (stocked l page rest c).class c) (slots_from (2 ^ c) w (blocks_in_page c)))
          (first (PAGE_WORDS * page) (2 ^ c)) (new-slots 0 (blocks_in_page c) (zero-add (blocks_in_page c)))))
      | inr other ↦ subst (AllByRecursion (IsDeadSlot s.unique (stocked l page rest c).pages.owner (stocked l page rest c).class d)) (sym (when_other d c all (l.dead d) other))
          (still-dead d (l.dead d) (laid.slots.dead d d_bound))
    ];
    apart = λ d d_bound. elim (cases_eq d c) [
      | inl same ↦ subst IsDistinct (sym (when_equal d c all (l.dead d) same)) (slots-apart (2 ^ c) (PAGE_WORDS * page) (blocks_in_page c) (pow_pos c))
      | inr other ↦ subst IsDistinct (sym (when_other d c all (l.dead d) other)) (laid.slots.apart d d_bound)
    ];
    count = λ d d_bound. elim (cases_eq d c) [
      | inl same ↦
          let many : length (if d == c then all else l.dead d) ≡ blocks_in_page c = ap length (when_equal d c all (l.dead d) same) ∙ slots-many (2 ^ c) (PAGE_WORDS * page) (blocks_in_page c) in
          let old : live_in c s.unique + length (l.dead c) ≡ slice_index s.classes c * blocks_in_page c = laid.slots.count c bound in
          let now : slice_index (with_page s c).classes c ≡ suc (slice_index s.classes c) = get_or-set_same s.classes c (suc (slice_index s.classes c)) 0 within in
          subst (λ n. live_in n s.unique + length (if d == c then all else l.dead d) ≡ slice_index (with_page s c).classes n * blocks_in_page n) (sym same)
          (counted (live_in c s.unique) _ (blocks_in_page c) _ _ (length (l.dead c)) many (ap length none) old
          (ap (λ n. n * blocks_in_page c) now ∙ suc-mul (slice_index s.classes c) (blocks_in_page c)))
      | inr other ↦
          let many : length (if d == c then all else l.dead d) ≡ length (l.dead d) = ap length (when_other d c all (l.dead d) other) in
          let same : slice_index (with_page s c).classes d ≡ slice_index s.classes d = get_or-set_other s.classes c d (suc (slice_index s.classes c)) 0 other in
          ap (λ n. live_in d s.unique + n) many ∙ (laid.slots.count d d_bound ∙ ap (λ n. n * blocks_in_page d) (sym same))
    ];
  }
    where
      first : (base z : ℕ) → base + 0 * z ≡ base
      first base z = omega arith

      within : c < length s.classes
      within = let eleven : length s.classes ≡ 11 = laid.sound.classes in omega (arith, eleven, bound)

      counted : (n e b p q d : ℕ) → e ≡ b → d ≡ 0 → n + d ≡ p → q ≡ p + b → n + e ≡ q
      counted n e b p q d many none old next = omega (arith, many, none, old, next)

  pub stock-laid : IsLaidOut (with_page s c) (stocked l page rest c)
  stock-laid = record {
    sound = stock-sound;
    paged = stock-paged;
    covered = λ p word h owned ordinary below. elim (cases_eq p page) [
      | inl here ↦ absurd (ordinary (sym (same_from_some (sym (when_equal p page (Some UNIQUE) (l.pages.owner p) here) ∙ owned))))
      | inr other ↦ laid.covered p word h (sym (when_other p page (Some UNIQUE) (l.pages.owner p) other) ∙ owned) ordinary
          (subst (λ n. word < n) (when_other p page PAGE_WORDS ((drawn l.pages page UNIQUE).filled p) other ∙ when_other p page 0 (l.pages.filled p) other) below)
    ];
    slots = stock-slots;
  }
