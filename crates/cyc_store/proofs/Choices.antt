-- If a store's blocks are laid out in pages and a call is not refused, some choice of handle, address and memory contents
-- keeps the blocks laid out in pages.
use Rattle.std.proofs.Common.{◌≡◌, ℕ, zero, suc, ◌+◌, ◌*◌, ◌^◌, ◌<◌, ◌≤◌, Bool, true, false, List, [], ◌∷◌, length, Option, None, Some, refl, sym, ap, subst, ◌∙◌, inl, inr, arith}
use Rattle.std.specs.Prelude.{◌⊎◌, ◌-◌, nat_le, is_some, slice_index, if◌then◌else◌}
use Rattle.std.proofs.lemmas.Bool.{cases_lt, cases_eq, and_parts, leb-true}
use Rattle.cyc_words.specs.Word.{IsWord}
use Rattle.cyc_words.specs.Demand.{greatest_class, class_of, blocks_in_page, demand_of}
use Rattle.cyc_words.proofs.Booleans.{some_there}
use Rattle.cyc_words.proofs.Numbers.{none_below, one_less, when_equal}
use Rattle.cyc_words.proofs.Options.{never_none_and_some}
use Rattle.cyc_store.specs.State.{lookup, without, Memory, AreWords, Block, address_of, Sort, Heap, Lexical, Dynamic, Uniques, Home, handle_of, StoreState, homes, sizes_in, start, word_at, has_saved, saved, demand, live_in, raised, opened, down_to, made_in, made_unique, room}
use Rattle.cyc_store.specs.Services.{Call, OpenLexical, CloseTo, OpenDynamic, CloseDynamic, Allocate, Free, Refusal, BadHandle, BadSize, NotABlock, Refused, Choice, block_of}
use Rattle.cyc_store.specs.Services.{served, answer, any_choice, is_full, full_at, names_dynamic, is_size, refusal, IsPlaced, IsApart, IsFresh, IsAllowed}
use Rattle.cyc_store.specs.Soundness.{IsSound}
use Rattle.cyc_store.specs.Run.{Service}
use Rattle.cyc_store.specs.Pages.{page_start, mark_of, HasChain, IsPaged}
use Rattle.cyc_store.specs.Slots.{place_of, slots_from, slot_block, Layout, IsLiveSlot, IsLaidOut, with_page}
use Rattle.cyc_store.specs.Ordered.{IsOrdered, HasChoice, Answers}
use Rattle.cyc_store.specs.Ledger.{store_of}
use Rattle.cyc_store.specs.inside.Kept.{numbers_from}
use Rattle.cyc_store.specs.declared.range.TheConstants.{HEAP, UNIQUE, PAGE_WORDS, MOST_BLOCK_WORDS, MOST_PAGES}
use Rattle.cyc_store.proofs.LookupLemmas.{when_other, lookup-there, lookup-key, lookup-without_other, IsPart, IsPart-without}
use Rattle.cyc_store.proofs.HolderLemmas.{IsPart-down_to}
use Rattle.cyc_store.proofs.CountLemmas.{class_of-bound, blocks-some}
use Rattle.cyc_store.proofs.BlockLemmas.{address-fresh_in}
use Rattle.cyc_store.proofs.ServiceLemmas.{made-in, made-unique, then-none, fits, start-sound, closed-sound, served-sound, saved-sound}
use Rattle.cyc_store.proofs.PageServices.{stays-placed, drawn-placed, full-without}
use Rattle.cyc_store.proofs.PagedOpening.{full-opening}
use Rattle.cyc_store.proofs.PagedRegions.{block_in_page}
use Rattle.cyc_store.proofs.PagedUnwinding.{shorter_without, part-step}
use Rattle.cyc_store.proofs.RegionServices.{paged-memory, opened-laid, stays-laid, draws-laid, closed-laid}
use Rattle.cyc_store.proofs.SlotCounts.{class-power, raised-past}
use Rattle.cyc_store.proofs.SlotServices.{dead-placed, dead-apart, dead-classes, dead-laid, freed-laid}
use Rattle.cyc_store.proofs.SlotStock.{stocked, with_page-demand, stock-laid}
use Rattle.cyc_store.proofs.KeptServices.{regions-few}
use Rattle.cyc_store.proofs.KeptStart.{no_regions, first_layout, first-laid}
use Rattle.cyc_store.proofs.Responses.{serves-none, serves-some}

-- ---- a new store

pub start-ordered : (pages : ℕ) (memory : Memory) → AreWords memory → 1 ≤ pages → pages ≤ MOST_PAGES → IsOrdered (start pages memory)
start-ordered zero memory words some few = absurd (omega (arith, some))
start-ordered (suc count) memory words some few = record {
  few = few;
  layout = _;
  laid = opened-laid (store_of (suc count) [] no_regions) (first_layout (suc count)) 0 (numbers_from 1 count) HEAP Heap memory
      (first-laid (suc count)) refl (λ e. absurd (omega (arith, e))) (start-sound (suc count) memory words some);
}

-- ---- an unused handle

-- If there are fewer than `n` regions, then one of the numbers below `n` is not the handle of a region.
fresh-below : (n : ℕ) (rs : List Home) → length rs < n → (h : ℕ) × (h < n) × (lookup handle_of rs h ≡ None)
fresh-below zero rs few = absurd (omega (arith, few))
fresh-below (suc n) rs few = by (lookup handle_of rs n) refl (λ fewer. fresh-below n (without handle_of rs n) fewer)
  where
    by : (o : Option Home) → lookup handle_of rs n ≡ o
        → (length (without handle_of rs n) < n → (h : ℕ) × (h < n) × (lookup handle_of (without handle_of rs n) h ≡ None)) → (h : ℕ) × (h < suc n) × (lookup handle_of rs h ≡ None)
    by None none again = (n, omega arith, none)
    by (Some r) there again =
        let (h, below, none) = again (omega (arith, few, shorter_without rs n r there)) in
        (h, omega (arith, below), sym (lookup-without_other handle_of rs n h (λ e. absurd (omega (arith, e, below)))) ∙ none)

module _ (s : StoreState) (o : IsOrdered s) where
  abbrev l : Layout
  l = o.layout

  sound : IsSound s
  sound = o.laid.sound

  -- The store's choice of this handle and this address, which leaves all words of the store unchanged.
  abbrev chosen : (handle address : ℕ) → Choice
  chosen handle address = record { handle = handle; address = address; memory = s.memory }

  fresh : (h : ℕ) × IsFresh s h
  fresh =
      let regions : length s.regions ≤ demand s = regions-few s.regions s.classes in
      let (h, below, none) = fresh-below 65538 (homes s) (few (length s.regions) (demand s) s.pages regions sound.demand o.few) in
      (h, (none, omega (arith, below)))
    where
      few : (n d p : ℕ) → n ≤ d → d ≤ p → p ≤ 65536 → suc n < 65538
      few n d p first second third = omega (arith, first, second, third)

  unique-named : (h : ℕ) → lookup handle_of (homes s) h ≡ None → h ≡ UNIQUE → ⊥
  unique-named h none same =
      never_none_and_some none (when_equal UNIQUE h (Some (record { handle = UNIQUE; sort = Uniques; blocks = s.unique })) (lookup handle_of s.regions h) (sym same))

  not_unique : (h : ℕ) (r : Home) → lookup handle_of s.regions h ≡ Some r → h ≡ UNIQUE → ⊥
  not_unique h r named same = never_none_and_some (subst (λ n. lookup handle_of s.regions n ≡ None) (sym same) sound.regions.handles.0) named

  -- ---- opening a region

  opens : (call : Call) (sort : Sort) → ((h : ℕ) → IsFresh s h → IsAllowed s call (record { handle = h; address = 0; memory = s.memory }))
      → ((c : Choice) → served s call c ≡ record (opened s c.handle sort) { memory = c.memory })
      → refusal s call ≡ None → HasChoice s call
  opens call sort allows serves none = by l.free refl
    where
      never : (p d : ℕ) → p < d → d ≤ p → ⊥
      never p d less more = omega (arith, less, more)

      room_there : demand (opened s 0 sort) ≤ s.pages
      room_there = subst (λ (t : StoreState). demand t ≤ s.pages) (serves (any_choice s)) (fits s call sound none)

      by : (free : List ℕ) → l.free ≡ free → HasChoice s call
      by [] none_free = absurd (never s.pages (demand (opened s 0 sort)) (full-opening s l.pages 0 sort (subst (IsPaged s l.pages) none_free o.laid.paged)) room_there)
      by (page ∷ rest) next =
          let (h, new) = fresh in
          let allowed = allows h new in
          let still : IsSound (record (opened s h sort) { memory = s.memory }) = subst IsSound (serves (chosen h 0)) (served-sound s call (chosen h 0) sound none allowed) in
          record {
            choice = chosen h 0;
            allowed = allowed;
            ordered = subst IsOrdered (sym (serves (chosen h 0)))
                (record { few = o.few; layout = _; laid = opened-laid s l page rest h sort s.memory o.laid next (unique-named h new.0) still });
          }

  -- ---- allocating a block

  module _ (h n : ℕ) (none : refusal s (Allocate h n) ≡ None) where
    -- If a request for a block is not refused, then its handle names a region and its size is allowed.
    sized : (is_some (lookup handle_of (homes s) h) ≡ true) × (1 ≤ n) × (n ≤ MOST_BLOCK_WORDS)
    sized =
        let (named, rest) = then-none (is_some (lookup handle_of (homes s) h)) (if is_size n then full_at (is_full s (Allocate h n)) else Some BadSize) BadHandle none in
        let (size, fit) = then-none (is_size n) (full_at (is_full s (Allocate h n))) BadSize rest in
        let both = and_parts (nat_le 1 n) (nat_le n MOST_BLOCK_WORDS) size in
        (named, leb-true 1 n both.0, leb-true n MOST_BLOCK_WORDS both.1)

    module _ (address : ℕ) (may : IsPlaced s.pages (block_of h n (chosen 0 address)) × IsApart (homes s) (block_of h n (chosen 0 address))) where
      allowed-there : IsAllowed s (Allocate h n) (chosen 0 address)
      allowed-there = record { may = may; keeps = λ x k old new. refl; words = sound.words }

      sound-there : IsSound (served s (Allocate h n) (chosen 0 address))
      sound-there = served-sound s (Allocate h n) (chosen 0 address) sound none allowed-there

      found : IsOrdered (served s (Allocate h n) (chosen 0 address)) → HasChoice s (Allocate h n)
      found ordered = record { choice = chosen 0 address; allowed = allowed-there; ordered = ordered }

  -- The proof that for a block in a region, the store can choose an address so that its blocks are still laid out in pages.
  module _ (h n : ℕ) (none : refusal s (Allocate h n) ≡ None) (ordinary : h ≡ UNIQUE → ⊥) where
    plain : room h n ≡ n
    plain = when_other h UNIQUE (2 ^ class_of n) n ordinary

    some : 0 < room h n
    some = subst (λ m. 0 < m) (sym plain) (let least : 1 ≤ n = (sized h n none).1 in omega (arith, least))

    small : room h n ≤ PAGE_WORDS
    small = subst (λ m. m ≤ PAGE_WORDS) (sym plain) (let most : n ≤ 1000 = (sized h n none).2 in omega (arith, most))

    made-is : (address : ℕ) → served s (Allocate h n) (chosen 0 address) ≡ record (made_in s h (block_of h n (chosen 0 address))) { memory = s.memory }
    made-is address = ap (λ (t : StoreState). record t { memory = s.memory }) (made-in s h (block_of h n (chosen 0 address)) ordinary)

    module _ (r : Home) (named : lookup handle_of (homes s) h ≡ Some r) where
      here : lookup handle_of s.regions h ≡ Some r
      here = sym (lookup-there handle_of (record { handle = UNIQUE; sort = Uniques; blocks = s.unique }) s.regions h (λ e. ordinary (sym e))) ∙ named

      few : demand (made_in s h (block_of h n (chosen 0 0))) ≤ s.pages
      few = subst (λ (t : StoreState). demand t ≤ s.pages) (made-in s h (block_of h n (any_choice s)) ordinary) (fits s (Allocate h n) sound none)

      unused : (address : ℕ) → IsPlaced s.pages (block_of h n (chosen 0 address)) × IsApart (homes s) (block_of h n (chosen 0 address))
          → lookup address_of r.blocks address ≡ None
      unused address may = address-fresh_in s h r (block_of h n (chosen 0 address)) sound named may.0 may.1

      sound-made : (address : ℕ) → IsPlaced s.pages (block_of h n (chosen 0 address)) × IsApart (homes s) (block_of h n (chosen 0 address))
          → IsSound (record (made_in s h (block_of h n (chosen 0 address))) { memory = s.memory })
      sound-made address may = subst IsSound (made-is address) (sound-there h n none address may)

      region-by : (free : List ℕ) → l.free ≡ free → (PAGE_WORDS < (mark_of r).filled + room h n) ⊎ ((mark_of r).filled + room h n ≤ PAGE_WORDS) → HasChoice s (Allocate h n)
      region-by free is (inr stays) =
          let chain : HasChain l.pages r = o.laid.paged.chains h r here in
          let address : ℕ = page_start chain.newest.page + 4 * (mark_of r).filled in
          let may = stays-placed s l.pages l.free o.laid.paged h r here (block_in_page chain.newest.page (mark_of r).filled (room h n)) chain.newest refl stays some in
          found h n none address may
          (subst IsOrdered (sym (made-is address)) (record {
            few = o.few;
            layout = _;
            laid = stays-laid s l o.laid h r here ordinary (room h n) some s.memory chain stays (unused address may) (sound-made address may);
          }))
      region-by [] is (inl past) =
          absurd (never s.pages (demand (made_in s h (block_of h n (chosen 0 0)))) (full-without s l.pages l.free o.laid.paged h r here (block_of h n (chosen 0 0)) is past) few)
        where
          never : (p d : ℕ) → p < d → d ≤ p → ⊥
          never p d less more = omega (arith, less, more)
      region-by (page ∷ rest) next (inl past) =
          let address : ℕ = page_start page + 4 * 0 in
          let may = drawn-placed s l.pages page rest (subst (IsPaged s l.pages) next o.laid.paged) h (block_in_page page 0 (room h n)) (no_words (page_start page)) some small in
          found h n none address may
          (subst IsOrdered (sym (made-is address)) (record {
            few = o.few;
            layout = _;
            laid = draws-laid s l o.laid h r here ordinary (room h n) some s.memory page rest next past small (unused address may) (sound-made address may);
          }))
        where
          no_words : (m : ℕ) → m + 4 * 0 ≡ m
          no_words m = omega arith

    in-region : HasChoice s (Allocate h n)
    in-region =
        let (r, named) = some_there (lookup handle_of (homes s) h) (sized h n none).0 in
        region-by r named l.free refl (cases_lt PAGE_WORDS ((mark_of r).filled + room h n))

  -- The proof that for a unique block, the store can choose an address so that its blocks are still laid out in pages.
  module _ (n : ℕ) (none : refusal s (Allocate UNIQUE n) ≡ None) where
    abbrev class : ℕ
    class = class_of n

    bound : class ≤ greatest_class
    bound = class_of-bound n

    block-is : (address : ℕ) → block_of UNIQUE n (chosen 0 address) ≡ record { address = address; size = 2 ^ class }
    block-is address = ap (λ m. record { address = address; size = m }) (when_equal UNIQUE UNIQUE (2 ^ class_of n) n refl)

    unique-is : (address : ℕ) → served s (Allocate UNIQUE n) (chosen 0 address) ≡ record (made_unique s (record { address = address; size = 2 ^ class })) { memory = s.memory }
    unique-is address =
        ap (λ (t : StoreState). record t { memory = s.memory }) (made-unique s UNIQUE (block_of UNIQUE n (chosen 0 address)) refl)
        ∙ ap (λ (b : Block). record (made_unique s b) { memory = s.memory }) (block-is address)

    may-be : (address : ℕ) → IsPlaced s.pages (record { address = address; size = 2 ^ class }) → IsApart (homes s) (record { address = address; size = 2 ^ class })
        → IsPlaced s.pages (block_of UNIQUE n (chosen 0 address)) × IsApart (homes s) (block_of UNIQUE n (chosen 0 address))
    may-be address placed apart = subst (λ (b : Block). IsPlaced s.pages b × IsApart (homes s) b) (sym (block-is address)) (placed, apart)

    -- The proof that a unique block can be put into an empty slot of its size class so that the store's blocks are still laid out in pages.
    in-slot : (w : ℕ) (rest : List ℕ) → l.dead class ≡ w ∷ rest → HasChoice s (Allocate UNIQUE n)
    in-slot w rest next =
        let may = may-be (place_of w) (dead-placed s l o.laid class w bound rest next) (dead-apart s l o.laid class w bound rest next) in
        found UNIQUE n none (place_of w) may
        (subst IsOrdered (sym (unique-is (place_of w))) (record {
          few = o.few;
          layout = _;
          laid = dead-laid s l o.laid class w bound rest next s.memory (subst IsSound (unique-is (place_of w)) (sound-there UNIQUE n none (place_of w) may));
        }))

    -- If a size class has no empty slot for a unique block, then a free page is cut into slots.
    module _ (spent : l.dead class ≡ []) where
      all-live : live_in class s.unique ≡ slice_index s.classes class * blocks_in_page class
      all-live = all (live_in class s.unique) (length (l.dead class)) _ (ap length spent) (o.laid.slots.count class bound)
        where
          all : (m d p : ℕ) → d ≡ 0 → m + d ≡ p → m ≡ p
          all m d p nothing count = omega (arith, nothing, count)

      -- If all slots of a size class are live, then one more block of the class needs one more page.
      raised-is : raised s.classes (class_of (2 ^ class)) (suc (live_in (class_of (2 ^ class)) s.unique)) ≡ (with_page s class).classes
      raised-is = ap (λ c. raised s.classes c (suc (live_in c s.unique))) (class-power class bound) ∙ raised-past s.classes class (live_in class s.unique) bound all-live

      grows : demand (served s (Allocate UNIQUE n) (any_choice s)) ≡ suc (demand s)
      grows = ap demand (unique-is 0) ∙ (ap (demand_of (sizes_in s.regions)) raised-is ∙ with_page-demand s class sound bound)

      first-slot : (size word count : ℕ) → 0 < count → slots_from size word count ≡ word ∷ slots_from size (word + size) (count - 1)
      first-slot size word zero more = absurd (omega (arith, more))
      first-slot size word (suc count) more = ap (λ m. word ∷ slots_from size (word + size) m) (let e : count ≡ suc count - 1 = omega arith in e)

      in-page : (page : ℕ) (rest : List ℕ) → l.free ≡ page ∷ rest → HasChoice s (Allocate UNIQUE n)
      in-page page rest next =
          let w : ℕ = PAGE_WORDS * page in
          let others : List ℕ = slots_from (2 ^ class) (w + 2 ^ class) (blocks_in_page class - 1) in
          let k : Layout = stocked l page rest class in
          let laid : IsLaidOut (with_page s class) k = stock-laid s l o.laid page rest next class bound spent in
          let slots : k.dead class ≡ w ∷ others =
          when_equal class class (slots_from (2 ^ class) (PAGE_WORDS * page) (blocks_in_page class)) (l.dead class) refl
          ∙ first-slot (2 ^ class) w (blocks_in_page class) (blocks-some class bound) in
          let same : made_unique (with_page s class) (slot_block class w) ≡ made_unique s (slot_block class w) =
          ap (λ (cs : List ℕ). record (made_unique s (slot_block class w)) { classes = cs }) (dead-classes (with_page s class) k laid class w bound others slots ∙ sym raised-is) in
          let may = may-be (place_of w) (dead-placed (with_page s class) k laid class w bound others slots) (dead-apart (with_page s class) k laid class w bound others slots) in
          let is : served s (Allocate UNIQUE n) (chosen 0 (place_of w)) ≡ record (made_unique (with_page s class) (slot_block class w)) { memory = s.memory } =
          unique-is (place_of w) ∙ ap (λ (t : StoreState). record t { memory = s.memory }) (sym same) in
          found UNIQUE n none (place_of w) may
          (subst IsOrdered (sym is) (record {
            few = o.few;
            layout = _;
            laid = dead-laid (with_page s class) k laid class w bound others slots s.memory (subst IsSound is (sound-there UNIQUE n none (place_of w) may));
          }))

      by-page : (free : List ℕ) → l.free ≡ free → HasChoice s (Allocate UNIQUE n)
      by-page [] no_page = absurd (past (demand s) s.pages _ (ap length no_page) o.laid.paged.count grows (fits s (Allocate UNIQUE n) sound none))
        where
          past : (d p e : ℕ) → length l.free ≡ 0 → length l.free + d ≡ p → e ≡ suc d → e ≤ p → ⊥
          past d p e nothing count next more = omega (arith, nothing, count, next, more)
      by-page (page ∷ rest) next = in-page page rest next

    by-slot : (words : List ℕ) → l.dead class ≡ words → HasChoice s (Allocate UNIQUE n)
    by-slot [] spent = by-page spent l.free refl
    by-slot (w ∷ rest) next = in-slot w rest next

  allocates : (h n : ℕ) → refusal s (Allocate h n) ≡ None → HasChoice s (Allocate h n)
  allocates h n none = elim (cases_eq h UNIQUE) [
    | inl same ↦
        subst (λ g. HasChoice s (Allocate g n)) (sym same)
        (let own : refusal s (Allocate UNIQUE n) ≡ None = subst (λ g. refusal s (Allocate g n) ≡ None) same none in by-slot n own (l.dead (class_of n)) refl)
    | inr other ↦ in-region h n none other
  ]

  -- ---- freeing a block

  frees : (a : ℕ) → refusal s (Free a) ≡ None → HasChoice s (Free a)
  frees a none =
      let (there_is, nothing) = then-none (is_some (lookup address_of s.unique a)) None NotABlock none in
      let (b, there) = some_there (lookup address_of s.unique a) there_is in
      let live : IsLiveSlot l.pages.owner l.class b = o.laid.slots.live a b there in
      let at : place_of live.word ≡ a = sym (ap address_of live.is) ∙ lookup-key address_of s.unique a b there in
      let bound : live.class ≤ greatest_class = subst (λ c. c ≤ greatest_class) live.slot.same (o.laid.slots.bound live.slot.page live.slot.owned) in
      let allowed : IsAllowed s (Free a) (chosen 0 0) = record { may = tt; keeps = λ x k old new. refl; words = sound.words } in
      let still = served-sound s (Free a) (chosen 0 0) sound none allowed in
      let freed = freed-laid s l o.laid live.class live.word bound live.slot b (ap (lookup address_of s.unique) at ∙ there) s.memory
      (subst (λ x. IsSound (record s { unique = without address_of s.unique x })) (sym at) still) in
      record {
        choice = chosen 0 0;
        allowed = allowed;
        ordered = subst (λ x. IsOrdered (record s { unique = without address_of s.unique x })) at (record { few = o.few; layout = _; laid = freed });
      }

  -- ---- closing a region

  closes : (h : ℕ) → refusal s (CloseDynamic h) ≡ None → HasChoice s (CloseDynamic h)
  closes h none =
      let (named, nothing) = then-none (names_dynamic (lookup handle_of s.regions h)) None BadHandle none in
      let (r, there) = known (lookup handle_of s.regions h) named in
      let allowed : IsAllowed s (CloseDynamic h) (chosen 0 0) = record { may = tt; keeps = λ x k old new. refl; words = sound.words } in
      record {
        choice = chosen 0 0;
        allowed = allowed;
        ordered = record {
          few = o.few;
          layout = _;
          laid = closed-laid s l h r s.memory o.laid there (not_unique h r there) (o.laid.paged.chains h r there) (served-sound s (CloseDynamic h) (chosen 0 0) sound none allowed);
        };
      }
    where
      known : (found : Option Home) → names_dynamic found ≡ true → (r : Home) × (found ≡ Some r)
      known None is = absurd (let e : false ≡ true = is in cc)
      known (Some r) is = (r, refl)

-- closing one region
module _ (s : StoreState) (o : IsOrdered s) (r : Home) (there : lookup handle_of s.regions r.handle ≡ Some r) where
  abbrev without_one : StoreState
  without_one = record s { regions = without handle_of s.regions r.handle }

  ordered-without : IsOrdered without_one
  ordered-without = record {
    few = o.few;
    layout = _;
    laid = closed-laid s o.layout r.handle r s.memory o.laid there (not_unique s o r.handle r there) (o.laid.paged.chains r.handle r there)
        (closed-sound s (without handle_of s.regions r.handle) s.memory o.laid.sound (IsPart-without handle_of s.regions r.handle) o.laid.sound.words);
  }

-- Closing any number of regions preserves the existence of a layout of the store's blocks in pages.
ordered-part : (left : ℕ) (s : StoreState) (qs : List Home) → length s.regions ≤ left → IsOrdered s → IsPart qs s.regions → IsOrdered (record s { regions = qs })
ordered-part zero s qs most o part = elim (part-step part o.laid.sound.regions.handles.1) [
  | inl same ↦ subst (λ rs. IsOrdered (record s { regions = rs })) (sym same) o
  | inr out ↦ absurd (none_below (length (without handle_of s.regions out.region.handle)) (length s.regions) (shorter_without s.regions out.region.handle out.region out.there) most)
]
ordered-part (suc left) s qs most o part = elim (part-step part o.laid.sound.regions.handles.1) [
  | inl same ↦ subst (λ rs. IsOrdered (record s { regions = rs })) (sym same) o
  | inr out ↦ ordered-part left (without_one s o out.region out.there) qs
      (one_less (length (without handle_of s.regions out.region.handle)) (length s.regions) left (shorter_without s.regions out.region.handle out.region out.there) most)
      (ordered-without s o out.region out.there) out.part
]

unwinds : (s : StoreState) → IsOrdered s → (mark : ℕ) → HasChoice s (CloseTo mark)
unwinds s o mark = record {
  choice = any_choice s;
  allowed = record { may = tt; keeps = λ x k old new. refl; words = o.laid.sound.words };
  ordered = ordered-part (length s.regions) s (down_to mark s.regions) (same (length s.regions)) o (IsPart-down_to mark s.regions);
}
  where
    same : (n : ℕ) → n ≤ n
    same n = omega arith

-- ---- all calls

pub has-choice : (s : StoreState) → IsOrdered s → (call : Call) → refusal s call ≡ None → HasChoice s call
has-choice s o OpenLexical none = opens s o OpenLexical Lexical (λ h new. record { may = new; keeps = λ x k old now. refl; words = o.laid.sound.words }) (λ c. refl) none
has-choice s o (CloseTo mark) none = unwinds s o mark
has-choice s o OpenDynamic none = opens s o OpenDynamic Dynamic (λ h new. record { may = new; keeps = λ x k old now. refl; words = o.laid.sound.words }) (λ c. refl) none
has-choice s o (CloseDynamic handle) none = closes s o handle none
has-choice s o (Allocate handle words) none = allocates s o handle words none
has-choice s o (Free address) none = frees s o address none

-- Writing a word of the store preserves the existence of a layout of the store's blocks in pages.
pub saved-ordered : (s : StoreState) (address word : ℕ) → IsOrdered s → IsWord word → IsOrdered (saved s address word)
saved-ordered s address word o is = by (word_at s address) (saved-sound s address word o.laid.sound is)
  where
    by : (found : Option ℕ) → IsSound (has_saved s address word found) → IsOrdered (has_saved s address word found)
    by None still = o
    by (Some old) still = record {
      few = o.few;
      layout = o.layout;
      laid = record { sound = still; paged = paged-memory s o.layout.pages o.layout.free _ o.laid.paged; covered = o.laid.covered; slots = o.laid.slots };
    }

-- For every list of calls to a store, there is a run of the store that answers each call of the list.
pub answers : (calls : List Call) (s : StoreState) → IsOrdered s → Answers calls s
answers [] s o = record { exchanges = []; services = tt; end = s; run = refl; ordered = o }
answers (call ∷ calls) s o = by (refusal s call) refl (λ t ordered. answers calls t ordered)
  where
    by : (why : Option Refusal) → refusal s call ≡ why → ((t : StoreState) → IsOrdered t → Answers calls t) → Answers (call ∷ calls) s
    by (Some why) is others =
        let rest = others s o in
        record {
          exchanges = Service call (Refused why) ∷ rest.exchanges;
          services = (refl, rest.services);
          end = rest.end;
          run = (s, serves-some s call why is, rest.run);
          ordered = rest.ordered;
        }
    by None none others =
        let has = has-choice s o call none in
        let rest = others (served s call has.choice) has.ordered in
        record {
          exchanges = Service call (answer s call has.choice) ∷ rest.exchanges;
          services = (refl, rest.services);
          end = rest.end;
          run = (served s call has.choice, serves-none s call has.choice none has.allowed, rest.run);
          ordered = rest.ordered;
        }
