-- This file is about the answers of a store whose blocks are laid out in pages. Each call, as the page model performs it, is a call of
-- the store relation, with its answer.
use Rattle.std.proofs.Common.{◌≡◌, ℕ, suc, ◌+◌, ◌^◌, ◌<◌, ◌≤◌, true, false, List, [], ◌∷◌, length, Option, None, Some, refl, sym, ap, subst, ◌∙◌, inl, inr, arith}
use Rattle.std.specs.Prelude.{◌&&◌, nat_le, is_some}
use Rattle.std.proofs.lemmas.Bool.{cases_Bool, cond-true, cond-false, le-leb, lt-leb, ltb-true, ltb-false}
use Rattle.cyc_words.specs.Demand.{class_of}
use Rattle.cyc_words.proofs.Numbers.{when_equal}
use Rattle.cyc_store.specs.State.{lookup, without, Memory, AreWords, Block, address_of, Sort, Lexical, Dynamic, Uniques, Home, handle_of, Holder, StoreState, homes, holder, demand, opened, lexical_count, down_to, made_in, made_unique}
use Rattle.cyc_store.specs.Services.{Call, OpenLexical, OpenDynamic, CloseTo, CloseDynamic, Allocate, Free, Refusal, BadMark, BadHandle, BadSize, NotABlock, Full, Refused, Done, Opened, OpenedLexical}
use Rattle.cyc_store.specs.Services.{Allocated, Choice, block_of, served, answer, any_choice, is_full, full_at, is_dynamic, names_dynamic, is_size, refusal, IsPlaced, IsApart, IsAllowed, ServesBy, Serves}
use Rattle.cyc_store.specs.Soundness.{IsSound}
use Rattle.cyc_store.specs.Pages.{IsPaged}
use Rattle.cyc_store.specs.Slots.{Layout, IsLaidOut}
use Rattle.cyc_store.specs.declared.range.TheConstants.{MOST_BLOCK_WORDS, UNIQUE}
use Rattle.cyc_store.proofs.LookupLemmas.{when_other, lookup-there}
use Rattle.cyc_store.proofs.ServiceLemmas.{made-unique, made-in, demand-served, served-sound}
use Rattle.cyc_store.proofs.PagedOpening.{demand-more, full-opening}

-- ---- refusals

pub serves-none : (s : StoreState) (call : Call) (c : Choice) → refusal s call ≡ None → IsAllowed s call c → Serves s call (answer s call c) (served s call c)
serves-none s call c none allowed = subst (λ o. ServesBy s call o (answer s call c) (served s call c)) (sym none) (c, allowed, refl, refl)

pub serves-some : (s : StoreState) (call : Call) (why : Refusal) → refusal s call ≡ Some why → Serves s call (Refused why) s
serves-some s call why is = subst (λ o. ServesBy s call o (Refused why) s) (sym is) (refl, refl)

-- If the store has enough pages for a call, then the call is not refused for lack of pages.
pub full-none-within : (s : StoreState) (call : Call) → demand (served s call (any_choice s)) ≤ s.pages → full_at (is_full s call) ≡ None
full-none-within s call few = elim (cases_Bool (is_full s call)) [
  | inl full ↦ absurd (clash s.pages (demand (served s call (any_choice s))) (ltb-true s.pages (demand (served s call (any_choice s))) full) few)
  | inr not ↦ ap full_at not
]
  where
    clash : (p d : ℕ) → p < d → d ≤ p → ⊥
    clash p d less more = omega (arith, less, more)

pub full-some-past : (s : StoreState) (call : Call) → s.pages < demand (served s call (any_choice s)) → full_at (is_full s call) ≡ Some Full
full-some-past s call past = elim (cases_Bool (is_full s call)) [
  | inl full ↦ ap full_at full
  | inr not ↦ absurd (clash s.pages (demand (served s call (any_choice s))) past (ltb-false s.pages (demand (served s call (any_choice s))) not))
]
  where
    clash : (p d : ℕ) → p < d → d ≤ p → ⊥
    clash p d less more = omega (arith, less, more)

-- ---- calls with an invalid handle, address or size

pub refuses-close : (s : StoreState) (h : ℕ) → names_dynamic (lookup handle_of s.regions h) ≡ false → Serves s (CloseDynamic h) (Refused BadHandle) s
refuses-close s h not = serves-some s (CloseDynamic h) BadHandle (cond-false (names_dynamic (lookup handle_of s.regions h)) None (Some BadHandle) not)

pub refuses-close_to : (s : StoreState) (mark : ℕ) → lexical_count s.regions < mark → Serves s (CloseTo mark) (Refused BadMark) s
refuses-close_to s mark past = serves-some s (CloseTo mark) BadMark
    (cond-false (nat_le mark (lexical_count s.regions)) None (Some BadMark) (lt-leb mark (lexical_count s.regions) past))

-- ---- opening a region

module _ (s : StoreState) (l : Layout) (laid : IsLaidOut s l) where
  room-opens : (page : ℕ) (rest : List ℕ) → l.free ≡ page ∷ rest → (h : ℕ) (sort : Sort) → demand (opened s h sort) ≤ s.pages
  room-opens page rest next h sort = few (length rest) (demand s) s.pages (length l.free) (demand (opened s h sort)) (ap length next) laid.paged.count (demand-more s.regions h sort s.classes)
    where
      few : (n d p f e : ℕ) → f ≡ suc n → f + d ≡ p → e ≡ suc d → e ≤ p
      few n d p f e first count grows = omega (arith, first, count, grows)

  pub lexical-none : (page : ℕ) (rest : List ℕ) → l.free ≡ page ∷ rest → refusal s OpenLexical ≡ None
  lexical-none page rest next = full-none-within s OpenLexical (room-opens page rest next 0 Lexical)

  pub dynamic-none : (page : ℕ) (rest : List ℕ) → l.free ≡ page ∷ rest → refusal s OpenDynamic ≡ None
  dynamic-none page rest next = full-none-within s OpenDynamic (room-opens page rest next 0 Dynamic)

  pub lexical-full : l.free ≡ [] → Serves s OpenLexical (Refused Full) s
  lexical-full none = serves-some s OpenLexical Full (full-some-past s OpenLexical (full-opening s l.pages 0 Lexical (subst (IsPaged s l.pages) none laid.paged)))

  pub dynamic-full : l.free ≡ [] → Serves s OpenDynamic (Refused Full) s
  dynamic-full none = serves-some s OpenDynamic Full (full-some-past s OpenDynamic (full-opening s l.pages 0 Dynamic (subst (IsPaged s l.pages) none laid.paged)))

  -- The store's choice that changes only the blocks, with this handle and address.
  abbrev chosen : (handle address : ℕ) → Choice
  chosen handle address = record { handle = handle; address = address; memory = s.memory }

  module _ (page : ℕ) (rest : List ℕ) (next : l.free ≡ page ∷ rest) (h : ℕ) (fresh : lookup handle_of (homes s) h ≡ None) (small : h < 2 ^ 32) where
    allowed-lexical : IsAllowed s OpenLexical (chosen h 0)
    allowed-lexical = record { may = (fresh, small); keeps = λ x k old new. refl; words = laid.sound.words }

    allowed-dynamic : IsAllowed s OpenDynamic (chosen h 0)
    allowed-dynamic = record { may = (fresh, small); keeps = λ x k old new. refl; words = laid.sound.words }

    pub serves-lexical : Serves s OpenLexical (OpenedLexical h (lexical_count s.regions)) (opened s h Lexical)
    serves-lexical = serves-none s OpenLexical (chosen h 0) (lexical-none page rest next) allowed-lexical

    pub sound-lexical : IsSound (opened s h Lexical)
    sound-lexical = served-sound s OpenLexical (chosen h 0) laid.sound (lexical-none page rest next) allowed-lexical

    pub serves-dynamic : Serves s OpenDynamic (Opened h) (opened s h Dynamic)
    serves-dynamic = serves-none s OpenDynamic (chosen h 0) (dynamic-none page rest next) allowed-dynamic

    pub sound-dynamic : IsSound (opened s h Dynamic)
    sound-dynamic = served-sound s OpenDynamic (chosen h 0) laid.sound (dynamic-none page rest next) allowed-dynamic

  -- ---- closing a region

  pub serves-close : (h : ℕ) (r : Home) → lookup handle_of s.regions h ≡ Some r → is_dynamic r.sort ≡ true
      → Serves s (CloseDynamic h) Done (record s { regions = without handle_of s.regions h })
  serves-close h r named sort = serves-none s (CloseDynamic h) (chosen 0 0)
      (cond-true (names_dynamic (lookup handle_of s.regions h)) None (Some BadHandle) (ap names_dynamic named ∙ sort))
      (record { may = tt; keeps = λ x k old new. refl; words = laid.sound.words })

  pub serves-close_to : (mark : ℕ) → mark ≤ lexical_count s.regions → Serves s (CloseTo mark) Done (record s { regions = down_to mark s.regions })
  serves-close_to mark most = serves-none s (CloseTo mark) (chosen 0 0)
      (cond-true (nat_le mark (lexical_count s.regions)) None (Some BadMark) (le-leb mark (lexical_count s.regions) most))
      (record { may = tt; keeps = λ x k old new. refl; words = laid.sound.words })

  -- ---- allocating a block

  sized : (n : ℕ) → 1 ≤ n → n ≤ MOST_BLOCK_WORDS → is_size n ≡ true
  sized n least most = ap (λ a. a && nat_le n MOST_BLOCK_WORDS) (le-leb 1 n least) ∙ le-leb n MOST_BLOCK_WORDS most

  pub named-home : (h : ℕ) (r : Home) → (h ≡ UNIQUE → ⊥) → lookup handle_of s.regions h ≡ Some r → lookup handle_of (homes s) h ≡ Some r
  named-home h r ordinary named = lookup-there handle_of (record { handle = UNIQUE; sort = Uniques; blocks = s.unique }) s.regions h (λ e. ordinary (sym e)) ∙ named

  -- A valid request for a block in an open region can be refused only for lack of pages.
  pub making : (h n : ℕ) (r : Home) → lookup handle_of (homes s) h ≡ Some r → 1 ≤ n → n ≤ MOST_BLOCK_WORDS → refusal s (Allocate h n) ≡ full_at (is_full s (Allocate h n))
  making h n r named least most =
      cond-true (is_some (lookup handle_of (homes s) h)) _ (Some BadHandle) (ap is_some named)
      ∙ cond-true (is_size n) (full_at (is_full s (Allocate h n))) (Some BadSize) (sized n least most)

  module _ (h n : ℕ) (r : Home) (ordinary : h ≡ UNIQUE → ⊥) (named : lookup handle_of s.regions h ≡ Some r) (least : 1 ≤ n) (most : n ≤ MOST_BLOCK_WORDS) (b : Block) (size : b.size ≡ n) where
    block-is : block_of h n (chosen 0 b.address) ≡ b
    block-is = ap (λ m. record { address = b.address; size = m }) (when_other h UNIQUE (2 ^ class_of n) n ordinary ∙ sym size)

    made-is : served s (Allocate h n) (chosen 0 b.address) ≡ made_in s h b
    made-is =
        ap (λ (t : StoreState). record t { memory = s.memory }) (made-in s h (block_of h n (chosen 0 b.address)) ordinary)
        ∙ ap (λ (c : Block). record (made_in s h c) { memory = s.memory }) block-is

    demand-is : demand (served s (Allocate h n) (any_choice s)) ≡ demand (made_in s h b)
    demand-is = demand-served s (Allocate h n) (any_choice s) (chosen 0 b.address) ∙ ap demand made-is

    pub region-none : demand (made_in s h b) ≤ s.pages → refusal s (Allocate h n) ≡ None
    region-none few = making h n r (named-home h r ordinary named) least most ∙ full-none-within s (Allocate h n) (subst (λ d. d ≤ s.pages) (sym demand-is) few)

    pub region-full : s.pages < demand (made_in s h b) → Serves s (Allocate h n) (Refused Full) s
    region-full past = serves-some s (Allocate h n) Full
        (making h n r (named-home h r ordinary named) least most ∙ full-some-past s (Allocate h n) (subst (λ d. s.pages < d) (sym demand-is) past))

    allowed-region : IsPlaced s.pages b × IsApart (homes s) b → IsAllowed s (Allocate h n) (chosen 0 b.address)
    allowed-region may = record {
      may = subst (λ c. IsPlaced s.pages c × IsApart (homes s) c) (sym block-is) may;
      keeps = λ x k old new. refl;
      words = laid.sound.words;
    }

    pub serves-region : IsPlaced s.pages b × IsApart (homes s) b → demand (made_in s h b) ≤ s.pages → Serves s (Allocate h n) (Allocated b.address) (made_in s h b)
    serves-region may few = subst (Serves s (Allocate h n) (Allocated b.address)) made-is
        (serves-none s (Allocate h n) (chosen 0 b.address) (region-none few) (allowed-region may))

    pub sound-region : IsPlaced s.pages b × IsApart (homes s) b → demand (made_in s h b) ≤ s.pages → IsSound (made_in s h b)
    sound-region may few = subst IsSound made-is (served-sound s (Allocate h n) (chosen 0 b.address) laid.sound (region-none few) (allowed-region may))

  unique-home : (o : Option Home) → lookup handle_of (homes s) UNIQUE ≡ Some (record { handle = UNIQUE; sort = Uniques; blocks = s.unique })
  unique-home o = when_equal UNIQUE UNIQUE (Some (record { handle = UNIQUE; sort = Uniques; blocks = s.unique })) (lookup handle_of s.regions UNIQUE) refl

  module _ (n : ℕ) (least : 1 ≤ n) (most : n ≤ MOST_BLOCK_WORDS) (b : Block) (size : b.size ≡ 2 ^ class_of n) where
    unique-is : block_of UNIQUE n (chosen 0 b.address) ≡ b
    unique-is = ap (λ m. record { address = b.address; size = m }) (when_equal UNIQUE UNIQUE (2 ^ class_of n) n refl ∙ sym size)

    made-is_unique : served s (Allocate UNIQUE n) (chosen 0 b.address) ≡ made_unique s b
    made-is_unique =
        ap (λ (t : StoreState). record t { memory = s.memory }) (made-unique s UNIQUE (block_of UNIQUE n (chosen 0 b.address)) refl)
        ∙ ap (λ (c : Block). record (made_unique s c) { memory = s.memory }) unique-is

    demand-is_unique : demand (served s (Allocate UNIQUE n) (any_choice s)) ≡ demand (made_unique s b)
    demand-is_unique = demand-served s (Allocate UNIQUE n) (any_choice s) (chosen 0 b.address) ∙ ap demand made-is_unique

    pub unique-none : demand (made_unique s b) ≤ s.pages → refusal s (Allocate UNIQUE n) ≡ None
    unique-none few = making UNIQUE n _ (unique-home None) least most ∙ full-none-within s (Allocate UNIQUE n) (subst (λ d. d ≤ s.pages) (sym demand-is_unique) few)

    pub unique-full : s.pages < demand (made_unique s b) → Serves s (Allocate UNIQUE n) (Refused Full) s
    unique-full past = serves-some s (Allocate UNIQUE n) Full
        (making UNIQUE n _ (unique-home None) least most ∙ full-some-past s (Allocate UNIQUE n) (subst (λ d. s.pages < d) (sym demand-is_unique) past))

    allowed-unique : IsPlaced s.pages b × IsApart (homes s) b → IsAllowed s (Allocate UNIQUE n) (chosen 0 b.address)
    allowed-unique may = record {
      may = subst (λ c. IsPlaced s.pages c × IsApart (homes s) c) (sym unique-is) may;
      keeps = λ x k old new. refl;
      words = laid.sound.words;
    }

    pub serves-unique : IsPlaced s.pages b × IsApart (homes s) b → demand (made_unique s b) ≤ s.pages → Serves s (Allocate UNIQUE n) (Allocated b.address) (made_unique s b)
    serves-unique may few = subst (Serves s (Allocate UNIQUE n) (Allocated b.address)) made-is_unique
        (serves-none s (Allocate UNIQUE n) (chosen 0 b.address) (unique-none few) (allowed-unique may))

    pub sound-unique : IsPlaced s.pages b × IsApart (homes s) b → demand (made_unique s b) ≤ s.pages → IsSound (made_unique s b)
    sound-unique may few = subst IsSound made-is_unique (served-sound s (Allocate UNIQUE n) (chosen 0 b.address) laid.sound (unique-none few) (allowed-unique may))

  -- ---- freeing a block

  -- When a block is freed, the words of this block may change.
  module _ (a : ℕ) (b : Block) (there : lookup address_of s.unique a ≡ Some b) (memory : Memory) (words : AreWords memory)
      (keeps : (x : ℕ) (k : Holder) → holder (homes s) x ≡ Some k → holder (homes (record s { unique = without address_of s.unique a })) x ≡ Some k → memory x ≡ s.memory x) where
    freed-none : refusal s (Free a) ≡ None
    freed-none = cond-true (is_some (lookup address_of s.unique a)) None (Some NotABlock) (ap is_some there)

    allowed-free : IsAllowed s (Free a) (record { handle = 0; address = 0; memory = memory })
    allowed-free = record { may = tt; keeps = keeps; words = words }

    pub serves-free : Serves s (Free a) Done (record s { unique = without address_of s.unique a; memory = memory })
    serves-free = serves-none s (Free a) (record { handle = 0; address = 0; memory = memory }) freed-none allowed-free

    pub sound-free : IsSound (record s { unique = without address_of s.unique a; memory = memory })
    sound-free = served-sound s (Free a) (record { handle = 0; address = 0; memory = memory }) laid.sound freed-none allowed-free
