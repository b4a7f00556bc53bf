-- If a unique block is allocated in an empty slot, or freed, the store's blocks are still laid out in pages.
use Rattle.std.proofs.Common.{◌≡◌, ◌≢◌, ℕ, suc, ◌+◌, ◌*◌, ◌^◌, ◌<◌, ◌≤◌, true, List, [], ◌∷◌, ◌++◌, length, Option, Some, refl, sym, ap, subst, ◌∙◌, inl, inr, arith}
use Rattle.std.specs.Prelude.{◌==◌, if◌then◌else◌}
use Rattle.std.specs.List.{AllByRecursion}
use Rattle.std.proofs.lemmas.Bool.{cases_eq}
use Rattle.std.proofs.lemmas.Nat.{pow_pos}
use Rattle.cyc_words.specs.Demand.{greatest_class, class_of, demand_of}
use Rattle.cyc_words.specs.Distinct.{IsDistinct}
use Rattle.cyc_words.proofs.Numbers.{when_equal}
use Rattle.cyc_words.proofs.Options.{never_none_and_some}
use Rattle.cyc_store.specs.State.{lookup, without, Memory, Block, address_of, StoreState, homes, covers, sizes_in, demand, live_in, raised, made_unique}
use Rattle.cyc_store.specs.Services.{IsPlaced, IsApart}
use Rattle.cyc_store.specs.Soundness.{IsSound}
use Rattle.cyc_store.specs.declared.range.TheConstants.{STORE_BASE, PAGE_WORDS, UNIQUE}
use Rattle.cyc_store.proofs.LookupLemmas.{when_other, lookup-append_cases, lookup-append_none, lookup-key, lookup-part, lookup-part_none, lookup-without, IsPart, is_empty, is_left, is_kept, IsPart-without}
use Rattle.cyc_store.proofs.HolderLemmas.{covers_from}
use Rattle.cyc_store.proofs.CountLemmas.{live_in-append_same, live_in-append_other}
use Rattle.cyc_store.specs.Pages.{Pages, LiesIn, AreLaidIn, IsPaged}
use Rattle.cyc_store.proofs.PageLemmas.{lies-placed, laid-last}
use Rattle.cyc_store.specs.Slots.{place_of, Layout, slot_block, IsSlot, IsLiveSlot, IsDeadSlot, AreSlots, IsLaidOut}
use Rattle.cyc_store.proofs.SlotCounts.{class-power, raised-fits, live_in-without_same, live_in-without_other}
use Rattle.cyc_store.proofs.SlotLemmas.{slots-one, slot-apart}

-- The layout in which the list of dead (empty) slots of one size class is replaced.
abbrev pub with_dead : Layout → (class : ℕ) → List ℕ → Layout
with_dead l class words = record l { dead = λ (other : ℕ). if other == class then words else l.dead other }

-- ---- the place of a slot

regroup_page : (base p u w : ℕ) → w ≡ 1024 * p + u → base + 4 * w ≡ base + 4 * (1024 * p) + 4 * u
regroup_page base p u w is = omega (arith, is)

slot-lies : (owner : ℕ → Option ℕ) (class_at : ℕ → ℕ) (c w : ℕ) (slot : IsSlot owner class_at c w) → LiesIn slot.page 0 PAGE_WORDS (slot_block c w)
slot-lies owner class_at c w slot = record {
  word = slot.number * 2 ^ c;
  at = regroup_page STORE_BASE slot.page (slot.number * 2 ^ c) w slot.at;
  after = least (slot.number * 2 ^ c);
  before = slot.fits;
  some = pow_pos c;
}
  where
    least : (n : ℕ) → 0 ≤ n
    least n = omega arith

pub same-words : (v w : ℕ) → place_of v ≡ place_of w → v ≡ w
same-words v w e = omega (arith, e)

-- A slot contains the address of its first word.
pub first-in : (c w : ℕ) → covers (slot_block c w) (place_of w) ≡ true
first-in c w = covers_from (slot_block c w) (place_of w) (starts (place_of w)) (within (place_of w) (2 ^ c) (pow_pos c))
  where
    starts : (n : ℕ) → n ≤ n
    starts n = omega arith

    within : (n z : ℕ) → 0 < z → n < n + 4 * z
    within n z some = omega (arith, some)

-- Slots of different size classes do not begin at the same word.
classes-apart : (owner : ℕ → Option ℕ) (class_at : ℕ → ℕ) (c d w : ℕ) → IsSlot owner class_at c w → IsSlot owner class_at d w → c ≡ d
classes-apart owner class_at c d w one other = (slots-one owner class_at c d w w (place_of w) one other (first-in c w) (first-in d w)).0

-- ---- page invariants under a change of the unique blocks

-- If the regions, the pages and the number of needed pages are unchanged, then the layout in pages is preserved.
pub paged-unique : (s : StoreState) (pages : Pages) (free : List ℕ) (unique : List Block) (classes : List ℕ) (memory : Memory) → IsPaged s pages free
    → AreLaidIn pages UNIQUE unique → demand_of (sizes_in s.regions) classes ≡ demand s
    → IsPaged (record s { unique = unique; classes = classes; memory = memory }) pages free
paged-unique s pages free unique classes memory paged laid same = record {
  laid = (laid, paged.laid.1);
  filled = paged.filled;
  below = paged.below;
  unowned = paged.unowned;
  apart = paged.apart;
  count = ap (λ n. length free + n) same ∙ paged.count;
  chains = paged.chains;
}

-- ---- allocating a block in a dead slot

module _ (s : StoreState) (l : Layout) (laid : IsLaidOut s l) (c w : ℕ) (bound : c ≤ greatest_class) (rest : List ℕ) (next : l.dead c ≡ w ∷ rest) where
  first-dead : IsDeadSlot s.unique l.pages.owner l.class c w
  first-dead = (subst (AllByRecursion (IsDeadSlot s.unique l.pages.owner l.class c)) next (laid.slots.dead c bound)).0

  -- A block that fills a dead (empty) slot lies in the store's address range.
  pub dead-placed : IsPlaced s.pages (slot_block c w)
  dead-placed =
      let dead : IsDeadSlot s.unique l.pages.owner l.class c w = first-dead in
      lies-placed s.pages dead.slot.page 0 PAGE_WORDS (slot_block c w) (laid.paged.below dead.slot.page UNIQUE dead.slot.owned) (same PAGE_WORDS)
      (slot-lies l.pages.owner l.class c w dead.slot)
    where
      same : (n : ℕ) → n ≤ n
      same n = omega arith

  pub dead-apart : IsApart (homes s) (slot_block c w)
  dead-apart = slot-apart s l laid c w first-dead.slot first-dead.none

  -- Filling a dead slot leaves the number of pages of every size class unchanged.
  pub dead-classes : raised s.classes (class_of (2 ^ c)) (suc (live_in (class_of (2 ^ c)) s.unique)) ≡ s.classes
  dead-classes =
      ap (λ n. raised s.classes n (suc (live_in n s.unique))) (class-power c bound)
      ∙ raised-fits s.classes c (live_in c s.unique) (length rest) bound
      (one_more (live_in c s.unique) (length rest) (length (l.dead c)) _ (ap length next) (laid.slots.count c bound))
    where
      one_more : (n r d p : ℕ) → d ≡ suc r → n + d ≡ p → suc n + r ≡ p
      one_more n r d p is count = omega (arith, is, count)

  pub dead-demand : demand (made_unique s (slot_block c w)) ≡ demand s
  dead-demand = ap (demand_of (sizes_in s.regions)) dead-classes

  -- After a unique block is allocated in a dead slot, the live unique blocks and the remaining dead
  -- slots still satisfy `AreSlots`, the condition on slots.
  pub dead-slots : AreSlots (s.unique ++ slot_block c w ∷ []) s.classes (with_dead l c rest)
  dead-slots = record {
    bound = laid.slots.bound;
    whole = laid.slots.whole;
    live = λ first b there. elim (lookup-append_cases address_of s.unique (slot_block c w) first b there) [
      | inl old ↦ laid.slots.live first b old
      | inr new ↦ subst (IsLiveSlot l.pages.owner l.class) (sym new) (record { class = c; word = w; slot = first-dead.slot; is = refl })
    ];
    dead = λ d d_bound. elim (cases_eq d c) [
      | inl same ↦ subst (AllByRecursion (IsDeadSlot (s.unique ++ slot_block c w ∷ []) l.pages.owner l.class d)) (sym (when_equal d c rest (l.dead d) same))
          (subst (λ n. AllByRecursion (IsDeadSlot (s.unique ++ slot_block c w ∷ []) l.pages.owner l.class n) rest) (sym same)
          (still-dead c rest distinct.0 (subst (AllByRecursion (IsDeadSlot s.unique l.pages.owner l.class c)) next (laid.slots.dead c bound)).1))
      | inr other ↦ subst (AllByRecursion (IsDeadSlot (s.unique ++ slot_block c w ∷ []) l.pages.owner l.class d)) (sym (when_other d c rest (l.dead d) other))
          (others-dead d (λ e. other (sym e)) (l.dead d) (laid.slots.dead d d_bound))
    ];
    apart = λ d d_bound. elim (cases_eq d c) [
      | inl same ↦ subst IsDistinct (sym (when_equal d c rest (l.dead d) same)) distinct.1
      | inr other ↦ subst IsDistinct (sym (when_other d c rest (l.dead d) other)) (laid.slots.apart d d_bound)
    ];
    count = λ d d_bound. elim (cases_eq d c) [
      | inl same ↦
          let many : live_in d (s.unique ++ slot_block c w ∷ []) ≡ suc (live_in d s.unique) =
          live_in-append_same d s.unique (slot_block c w) (class-power c bound ∙ sym same) in
          let dead : length (if d == c then rest else l.dead d) ≡ length rest = ap length (when_equal d c rest (l.dead d) same) in
          let old : length (l.dead d) ≡ suc (length rest) = ap (λ n. length (l.dead n)) same ∙ ap length next in
          moved (live_in d s.unique) _ _ _ _ _ many dead old (laid.slots.count d d_bound)
      | inr other ↦
          let many : live_in d (s.unique ++ slot_block c w ∷ []) ≡ live_in d s.unique =
          live_in-append_other d s.unique (slot_block c w) (λ e. other (sym e ∙ class-power c bound)) in
          let dead : length (if d == c then rest else l.dead d) ≡ length (l.dead d) = ap length (when_other d c rest (l.dead d) other) in
          kept _ _ _ _ _ many dead (laid.slots.count d d_bound)
    ];
  }
    where
      distinct : IsDistinct (w ∷ rest)
      distinct = subst IsDistinct next (laid.slots.apart c bound)

      moved : (n m d e o p : ℕ) → m ≡ suc n → e ≡ d → o ≡ suc d → n + o ≡ p → m + e ≡ p
      moved n m d e o p many dead old count = omega (arith, many, dead, old, count)

      kept : (n m d e p : ℕ) → m ≡ n → e ≡ d → n + d ≡ p → m + e ≡ p
      kept n m d e p many dead count = omega (arith, many, dead, count)

      still-dead : (d : ℕ) (words : List ℕ) → AllByRecursion (λ v. w ≢ v) words → AllByRecursion (IsDeadSlot s.unique l.pages.owner l.class d) words
          → AllByRecursion (IsDeadSlot (s.unique ++ slot_block c w ∷ []) l.pages.owner l.class d) words
      still-dead d [] others all = tt
      still-dead d (v ∷ words) others all = (
        record {
          slot = all.0.slot;
          none = lookup-append_none address_of s.unique (slot_block c w) (place_of v) all.0.none (λ e. others.0 (same-words w v e));
        },
        still-dead d words others.1 all.1,
      )

      others-dead : (d : ℕ) → (c ≡ d → ⊥) → (words : List ℕ) → AllByRecursion (IsDeadSlot s.unique l.pages.owner l.class d) words
          → AllByRecursion (IsDeadSlot (s.unique ++ slot_block c w ∷ []) l.pages.owner l.class d) words
      others-dead d other [] all = tt
      others-dead d other (v ∷ words) all = (
        record {
          slot = all.0.slot;
          none = lookup-append_none address_of s.unique (slot_block c w) (place_of v) all.0.none
              (λ e. other (classes-apart l.pages.owner l.class c d v (subst (IsSlot l.pages.owner l.class c) (same-words w v e) first-dead.slot) all.0.slot));
        },
        others-dead d other words all.1,
      )

  pub dead-paged : (memory : Memory) → IsPaged (record (made_unique s (slot_block c w)) { memory = memory }) l.pages l.free
  dead-paged memory = paged-unique s l.pages l.free (s.unique ++ slot_block c w ∷ []) (raised s.classes (class_of (2 ^ c)) (suc (live_in (class_of (2 ^ c)) s.unique))) memory
      laid.paged
      (laid-last l.pages UNIQUE s.unique (slot_block c w) laid.paged.laid.0 (record {
        page = first-dead.slot.page;
        owned = first-dead.slot.owned;
        lies = subst (λ n. LiesIn first-dead.slot.page 0 n (slot_block c w)) (sym (laid.slots.whole first-dead.slot.page first-dead.slot.owned))
            (slot-lies l.pages.owner l.class c w first-dead.slot);
      }))
      dead-demand

  pub dead-laid : (memory : Memory) → IsSound (record (made_unique s (slot_block c w)) { memory = memory })
      → IsLaidOut (record (made_unique s (slot_block c w)) { memory = memory }) (with_dead l c rest)
  dead-laid memory sound = record {
    sound = sound;
    paged = dead-paged memory;
    covered = laid.covered;
    slots = subst (λ k. AreSlots (s.unique ++ slot_block c w ∷ []) k (with_dead l c rest)) (sym dead-classes) dead-slots;
  }

-- ---- freeing a block

module _ (s : StoreState) (l : Layout) (laid : IsLaidOut s l) (c w : ℕ) (bound : c ≤ greatest_class) (slot : IsSlot l.pages.owner l.class c w)
    (b : Block) (there : lookup address_of s.unique (place_of w) ≡ Some b) where
  pub freed-is : b ≡ slot_block c w
  freed-is =
      let live : IsLiveSlot l.pages.owner l.class b = laid.slots.live (place_of w) b there in
      let words : live.word ≡ w = same-words live.word w (sym (ap address_of live.is) ∙ lookup-key address_of s.unique (place_of w) b there) in
      let classes : live.class ≡ c = classes-apart l.pages.owner l.class live.class c w (subst (IsSlot l.pages.owner l.class live.class) words live.slot) slot in
      live.is ∙ (ap (λ n. slot_block n live.word) classes ∙ ap (slot_block c) words)

  freed-class : class_of b.size ≡ c
  freed-class = ap (λ (x : Block). class_of x.size) freed-is ∙ class-power c bound

  freed-slots : AreSlots (without address_of s.unique (place_of w)) s.classes (with_dead l c (w ∷ l.dead c))
  freed-slots = record {
    bound = laid.slots.bound;
    whole = laid.slots.whole;
    live = λ first x found. laid.slots.live first x (lookup-part address_of (IsPart-without address_of s.unique (place_of w)) laid.sound.uniques first x found);
    dead = λ d d_bound. elim (cases_eq d c) [
      | inl same ↦ subst (AllByRecursion (IsDeadSlot (without address_of s.unique (place_of w)) l.pages.owner l.class d)) (sym (when_equal d c (w ∷ l.dead c) (l.dead d) same))
          (subst (λ n. AllByRecursion (IsDeadSlot (without address_of s.unique (place_of w)) l.pages.owner l.class n) (w ∷ l.dead c)) (sym same)
          (record { slot = slot; none = lookup-without address_of s.unique (place_of w) }, still c (l.dead c) (laid.slots.dead c bound)))
      | inr other ↦ subst (AllByRecursion (IsDeadSlot (without address_of s.unique (place_of w)) l.pages.owner l.class d)) (sym (when_other d c (w ∷ l.dead c) (l.dead d) other))
          (still d (l.dead d) (laid.slots.dead d d_bound))
    ];
    apart = λ d d_bound. elim (cases_eq d c) [
      | inl same ↦ subst IsDistinct (sym (when_equal d c (w ∷ l.dead c) (l.dead d) same)) (fresh (l.dead c) (laid.slots.dead c bound), laid.slots.apart c bound)
      | inr other ↦ subst IsDistinct (sym (when_other d c (w ∷ l.dead c) (l.dead d) other)) (laid.slots.apart d d_bound)
    ];
    count = λ d d_bound. elim (cases_eq d c) [
      | inl same ↦
          let many : suc (live_in d (without address_of s.unique (place_of w))) ≡ live_in d s.unique =
          live_in-without_same d s.unique (place_of w) b laid.sound.uniques there (freed-class ∙ sym same) in
          let dead : length (if d == c then w ∷ l.dead c else l.dead d) ≡ suc (length (l.dead c)) = ap length (when_equal d c (w ∷ l.dead c) (l.dead d) same) in
          let old : length (l.dead d) ≡ length (l.dead c) = ap (λ n. length (l.dead n)) same in
          moved _ _ _ _ _ _ many dead old (laid.slots.count d d_bound)
      | inr other ↦
          let many : live_in d (without address_of s.unique (place_of w)) ≡ live_in d s.unique =
          live_in-without_other d s.unique (place_of w) b laid.sound.uniques there (λ e. other (sym e ∙ freed-class)) in
          let dead : length (if d == c then w ∷ l.dead c else l.dead d) ≡ length (l.dead d) = ap length (when_other d c (w ∷ l.dead c) (l.dead d) other) in
          kept _ _ _ _ _ many dead (laid.slots.count d d_bound)
    ];
  }
    where
      moved : (n m d e o p : ℕ) → suc m ≡ n → e ≡ suc d → o ≡ d → n + o ≡ p → m + e ≡ p
      moved n m d e o p many dead old count = omega (arith, many, dead, old, count)

      kept : (n m d e p : ℕ) → m ≡ n → e ≡ d → n + d ≡ p → m + e ≡ p
      kept n m d e p many dead count = omega (arith, many, dead, count)

      still : (d : ℕ) (words : List ℕ) → AllByRecursion (IsDeadSlot s.unique l.pages.owner l.class d) words
          → AllByRecursion (IsDeadSlot (without address_of s.unique (place_of w)) l.pages.owner l.class d) words
      still d [] all = tt
      still d (v ∷ words) all = (
        record { slot = all.0.slot; none = lookup-part_none address_of (IsPart-without address_of s.unique (place_of w)) (place_of v) all.0.none },
        still d words all.1,
      )

      fresh : (words : List ℕ) → AllByRecursion (IsDeadSlot s.unique l.pages.owner l.class c) words → AllByRecursion (λ v. w ≢ v) words
      fresh [] all = tt
      fresh (v ∷ words) all = (λ e. never_none_and_some all.0.none (subst (λ n. lookup address_of s.unique (place_of n) ≡ Some b) e there), fresh words all.1)

  pub freed-laid : (memory : Memory) → IsSound (record s { unique = without address_of s.unique (place_of w); memory = memory })
      → IsLaidOut (record s { unique = without address_of s.unique (place_of w); memory = memory }) (with_dead l c (w ∷ l.dead c))
  freed-laid memory sound = record {
    sound = sound;
    paged = paged-unique s l.pages l.free (without address_of s.unique (place_of w)) s.classes memory laid.paged
        (laid-fewer l.pages UNIQUE (IsPart-without address_of s.unique (place_of w)) laid.paged.laid.0) refl;
    covered = laid.covered;
    slots = freed-slots;
  }
    where
      laid-fewer : (pages : Pages) (h : ℕ) {cs bs : List Block} → IsPart cs bs → AreLaidIn pages h bs → AreLaidIn pages h cs
      laid-fewer pages h is_empty all = tt
      laid-fewer pages h (is_left part) all = laid-fewer pages h part all.1
      laid-fewer pages h (is_kept part) all = (all.0, laid-fewer pages h part all.1)
